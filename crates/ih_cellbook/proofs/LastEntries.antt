-- The last entry of a worker, met one by one.
use Rattle.std.proofs.Common.{◌≡◌, ℕ, ◌+◌, ◌<◌, refl, sym, ap, ◌∙◌, List, [], length, take, inl, inr, Option, Some, None, false}
use Rattle.std.proofs.lemmas.Bool.{eq-eqb, ne_eqb}
use Rattle.std.specs.Prelude.{slice_get, slice_index_or}
use Rattle.std.proofs.lemmas.List.{take_more}
use Rattle.ih_journal.specs.Tried.{Tried}
use Rattle.ih_journal.specs.declared.settings.Options.{Options}
use Rattle.ih_journal.specs.Attempts.{try_after, else_last, is_done, is_done_after, last_by, next_try, when_by}
use Rattle.ih_journal.proofs.Growth.{last_by-more}
use Rattle.ih_cellbook.specs.Laws.{HasNoneBy}
use Rattle.ih_cellbook.specs.Offers.{next_number}
use Rattle.ih_plan.proofs.ReadLemmas.{get-more}

pub none-last : (w : ℕ) → None ≡ last_by w []
unfolding last_by
none-last w = refl

last_by-next : (w : ℕ) (es : List Tried) (k : ℕ) (d : Tried) → k < length es → last_by w (take (k + 1) es) ≡ else_last (when_by w (slice_index_or es k d)) (last_by w (take k es))
last_by-next w es k d h = ap (last_by w) (take_more es k d h) ∙ last_by-more w (take k es) (slice_index_or es k d)

pub none_by-next : (w : ℕ) (es : List Tried) (k : ℕ) (d : Tried) → k < length es → HasNoneBy w (take k es) → ((slice_index_or es k d).worker ≡ w → ⊥) → HasNoneBy w (take (k + 1) es)
none_by-next w es k d h none other j e there own =
    elim (get-more (take k es) (slice_index_or es k d) e j (ap (λ xs. slice_get xs j) (sym (take_more es k d h)) ∙ there)) [
      | inl earlier ↦ none j e earlier.1 own
      | inr last ↦ other (ap (λ (f : Tried). f.worker) last.1 ∙ own)
    ]

pub last-own : (w : ℕ) (es : List Tried) (k : ℕ) (d : Tried) → k < length es → (slice_index_or es k d).worker ≡ w → Some (slice_index_or es k d) ≡ last_by w (take (k + 1) es)
last-own w es k d h own = sym (last_by-next w es k d h ∙ rw (eq-eqb (slice_index_or es k d).worker w own) refl)

pub last-other : (w : ℕ) (es : List Tried) (k : ℕ) (d : Tried) → k < length es → ((slice_index_or es k d).worker ≡ w → ⊥) → last_by w (take k es) ≡ last_by w (take (k + 1) es)
last-other w es k d h other = sym (last_by-next w es k d h ∙ rw (ne_eqb (slice_index_or es k d).worker w other) refl)

-- the number of the next attempt, by the last entry
pub next-is : (o : Options) (H : List Tried) (w n : ℕ) (last : Option Tried) → last ≡ last_by w H → is_done_after o last ≡ false → (try_after o last).number ≡ n → next_number o H w ≡ Some n
unfolding next_try is_done
next-is o H w n last same more number = rw (sym same, more, number) refl
