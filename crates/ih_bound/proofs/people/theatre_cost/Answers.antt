use Rattle.std.proofs.Common.{◌≡◌, arith, inl, inr}
use Rattle.std.proofs.lemmas.Bool.{cases_lt}
use Rattle.ih_bound.proofs.people.theatre_cost.Goals as goal
use Rattle.ih_bound.proofs.people.theatre_cost.Goals.{then-limit_of-minutes, else-limit_of-minutes}

pub loop-t-preserved : goal.loop-t-preserved
loop-t-preserved c = λ rates i below long_enough. elim (cases_lt i c.loop-t.t) [
  | inl before ↦
      let old = c.loop-t.invariant rates i before long_enough in
      elim c.if-limit_of-minutes.branch [
        | then-limit_of-minutes w ↦ omega (arith, old, w.min-least.ensures, w.least-is)
        | else-limit_of-minutes w ↦ omega (arith, old, w.least-is)
      ]
  | inr behind ↦
      let same : i ≡ c.loop-t.t = omega arith in
      let long = rw same at long_enough in
      rw same (elim c.if-limit_of-minutes.branch [
        | then-limit_of-minutes w ↦ omega (arith, w.cost_in.ensures rates, w.min-least.ensures, w.least-is)
        | else-limit_of-minutes w ↦ absurd (omega (arith, long, c.limit_of.ensures, w.if-limit_of-minutes.false))
      ])
]
