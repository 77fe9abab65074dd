use Rattle.std.proofs.Common.{◌≡◌, ◌++◌, take}
use Rattle.std.specs.Prelude.{flat_map, string_bytes}
use Rattle.ih_warnings.specs.Warnings.{lines}
use Rattle.ih_warnings.proofs.listing.put_all.Given as goal

abbrev pub invariant-loop-slip : goal.invariant-loop-slip
invariant-loop-slip l =
    string_bytes l.out ≡ string_bytes l.initial.out ++ flat_map (lines l.inst.draft) (take l.slip-index l.slips)
