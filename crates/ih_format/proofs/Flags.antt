-- The flags of the items read so far, as the list grows.
use Rattle.std.proofs.Common.{◌≡◌, ℕ, ◌<◌, List, [], ◌∷◌, ◌++◌, length, refl, ap, ◌∙◌, arith}
use Rattle.std.specs.Prelude.{Bool, true, false, ◌==◌}
use Rattle.std.proofs.lemmas.List.Folds.{list_any-append}
use Rattle.std.proofs.Math.ListN.{set, length-set, replicate, length-replicate}
use Rattle.std.proofs.Math.Bool.{or-false}
use mathlib.Core.Path.{fun_ext}
use Rattle.ih_format.specs.Flags.{is_among}
use Rattle.ih_tables.specs.Marks.{is_marked}
use Rattle.ih_tables.proofs.MarkLemmas.{none-marked, one-marked}

-- there are n flags, and those of the items' numbers are set
pub record AreFlagged {A : Type 0} (number : A → ℕ) (n : ℕ) (flags : List Bool) (items : List A) : Type 0 where
  pub len : length flags ≡ n
  pub same : is_marked flags ≡ is_among number items

pub are_flagged-none : {A : Type 0} (number : A → ℕ) (n : ℕ) → AreFlagged number n (replicate n false) []
are_flagged-none number n = record { len = length-replicate n false; same = fun_ext (λ k. none-marked n k) }

pub are_flagged-more : {A : Type 0} {number : A → ℕ} {n : ℕ} {flags : List Bool} {items : List A} (x : A) → AreFlagged number n flags items → number x < n
    → AreFlagged number n (set flags (number x) true) (items ++ x ∷ [])
are_flagged-more {A} {number} {n} {flags} {items} x so_far h = record {
  len = length-set flags (number x) true ∙ so_far.len;
  same = fun_ext (λ j. one-marked flags (number x) j (omega (arith, so_far.len))
      ∙ rw (ap (λ (f : ℕ → Bool). f j) so_far.same, list_any-append (λ y. number y == j) items (x ∷ []), or-false (number x == j)) refl);
}
