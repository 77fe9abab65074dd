use Rattle.std.proofs.Common.{◌≡◌, ◌++◌, take, map}
use Rattle.ih_journal.specs.Pieces.{marked}
use Rattle.ih_journal.specs.Texts.{move_text}
use Rattle.ih_chain.proofs.texts.put_behind.Given as goal

-- those so far are written
abbrev pub invariant-loop-mv : goal.invariant-loop-mv
invariant-loop-mv l = l.out.items ≡ l.fn.out.items ++ marked 59 (map move_text (take l.mv-index l.moves))
