use Rattle.std.proofs.Common.{◌≡◌, drop}
use Rattle.ih_shelf.specs.Stored.{names_of}
use Rattle.ih_shelf.proofs.stored.find.Given as goal

abbrev pub invariant-loop-file : goal.invariant-loop-file
invariant-loop-file l = names_of l.files l.name ≡ names_of (drop l.file-index l.files) l.name
