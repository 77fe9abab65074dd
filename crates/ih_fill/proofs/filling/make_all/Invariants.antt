use Rattle.std.proofs.Common.{◌≡◌, take}
use Rattle.ih_fill.specs.Fill.{with_choices}
use Rattle.ih_fill.proofs.filling.make_all.Given as goal

abbrev pub invariant-loop-at : goal.invariant-loop-at
invariant-loop-at l = l.scorer ≡ record l.fn.scorer { plan = with_choices l.inst.draft l.fn.scorer.hard l.fn.scorer.plan (take l.at l.choices) }
