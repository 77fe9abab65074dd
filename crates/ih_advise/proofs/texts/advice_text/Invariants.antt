use Rattle.std.proofs.Common.{◌≡◌, take}
use Rattle.std.specs.Prelude.{flat_map}
use Rattle.ih_advise.specs.Texts.{advice_line}
use Rattle.ih_advise.proofs.texts.advice_text.Given as goal

abbrev pub invariant-loop-a : goal.invariant-loop-a
invariant-loop-a l = l.out.items ≡ flat_map advice_line (take l.a-index l.list)
