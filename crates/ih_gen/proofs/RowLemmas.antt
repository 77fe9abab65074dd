-- What one more thing makes of a row.
use Rattle.std.proofs.Common.{◌≡◌, ◌∙◌, ℕ, ◌+◌, ap, sym, refl, map, List, [], ◌∷◌, ◌++◌}
use Rattle.serde_json.specs.Data.{Data}
use Rattle.serde_json.specs.View.{view}
use Rattle.serde_json.specs.declared.value.Value.{Value}
use Rattle.ih_solution.proofs.ListedValues.{views-more, chosen-zero, chosen-more, listed-zero, listed-more}
use Rattle.ih_plan.proofs.SumLemmas.{sum_below-zero, sum_below-more}
use Rattle.ih_plan.specs.Draws.{state_after}
use Rattle.ih_gen.specs.Words.{begins, in_a_row}
use Rattle.ih_gen.proofs.Streams.{begins-zero, begins-more, state-later, state-none, pick-later}

pub row-zero : (thing : ℕ → List ℕ → Data) (words : ℕ → List ℕ → ℕ) (s : List ℕ) → in_a_row thing words 0 s ≡ []
unfolding in_a_row
row-zero thing words s = refl

pub row-more : (thing : ℕ → List ℕ → Data) (words : ℕ → List ℕ → ℕ) (n : ℕ) (s : List ℕ)
    → in_a_row thing words (n + 1) s ≡ in_a_row thing words n s ++ thing n (begins words n s) ∷ []
unfolding in_a_row
row-more thing words n s = listed-more (λ i. thing i (begins words i s)) n

-- what a loop over a row keeps: with one thing more the values are those of a longer row, and the picks go on behind it
pub row-made : (thing : ℕ → List ℕ → Data) (words : ℕ → List ℕ → ℕ) (n : ℕ) (s p : List ℕ) (before after : List Value) (v : Value)
    → map view before ≡ in_a_row thing words n s → p ≡ begins words n s → view v ≡ thing n p → after ≡ before ++ v ∷ []
    → map view after ≡ in_a_row thing words (n + 1) s
row-made thing words n s p before after v so_far here is pushed =
    rw (pushed, views-more before v, so_far, is, here) (sym (row-more thing words n s))

pub row-goes : (words : ℕ → List ℕ → ℕ) (n : ℕ) (s p later : List ℕ) → later ≡ state_after (words n p) p → p ≡ begins words n s
    → later ≡ begins words (n + 1) s
row-goes words n s p later moved here = moved ∙ (ap (λ q. state_after (words n q) q) here ∙ sym (begins-more words n s))

pub ruleset row_steps = (views-more, row-zero, row-more, begins-zero, begins-more)

pub ruleset listed_steps = (views-more, listed-zero, listed-more)

pub ruleset need_steps = (views-more, listed-zero, listed-more, state-later, state-none, pick-later)

pub ruleset worked_steps = (views-more, chosen-zero, chosen-more, sum_below-zero, sum_below-more, state-later, state-none, pick-later)
