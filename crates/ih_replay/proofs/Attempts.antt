-- A worker's next attempt: there is one exactly where its number is below the moves.
use Rattle.std.proofs.Common.{◌≡◌, ℕ, ◌+◌, ◌<◌, ◌≤◌, refl, sym, arith, ap, ◌∙◌, inl, inr, Bool, true, false, List, Option, Some, None}
use Rattle.std.specs.Prelude.{if◌then◌else◌, ◌&&◌, ◌==◌, not, option_map}
use Rattle.std.proofs.Math.Bool.{and-false}
use Rattle.std.proofs.lemmas.Bool.{cases_eq, ne_eqb}
use Rattle.ih_journal.specs.Tried.{Tried}
use Rattle.ih_journal.specs.declared.settings.Options.{Options}
use Rattle.ih_journal.specs.Attempts.{TryNumber, try_after, is_done, is_done_after, is_retried, last_by, next_try}
use Rattle.ih_journal.specs.Base.{Base}
use Rattle.ih_cellbook.specs.Legal.{AreLegalButDraws}
use Rattle.ih_cellbook.specs.Offers.{next_number}
use Rattle.ih_cellbook.proofs.EntryLimits.{next-below}

pub number-of : (o : Options) (H : List Tried) (w : ℕ) (a : TryNumber) → next_try o H w ≡ Some a → next_number o H w ≡ Some a.number
number-of o H w a e = ap (option_map (λ (a : TryNumber). a.number)) e

done-most : (o : Options) (l : Option Tried) → is_done_after o l ≡ true → o.moves ≤ (try_after o l).number
done-most o None h = elim (cases_eq o.moves 0) [
  | inl none ↦ omega (arith, none)
  | inr some ↦ absurd (let no : false ≡ true = rw (ne_eqb o.moves 0 some) at h in cc)
]
done-most o (Some e) h = elim (cases_eq o.moves 0) [
  | inl none ↦ omega (arith, none)
  | inr some ↦ by_case (is_retried o e) (rw (ne_eqb o.moves 0 some) at h)
]
  where
    by_case : (t : Bool) → ((e.number + 1 == o.moves) && not t) ≡ true
        → o.moves ≤ (let a : TryNumber =
        (if t then record { number = e.number; again = e.again + 1 } else record { number = e.number + 1; again = 0 }) in a.number)
    by_case true h = absurd (let no : false ≡ true = sym (and-false (e.number + 1 == o.moves)) ∙ h in cc)
    by_case false h = elim (cases_eq (e.number + 1) o.moves) [
      | inl last ↦ omega (arith, last)
      | inr other ↦ absurd (let no : false ≡ true = rw (ne_eqb (e.number + 1) o.moves other) at h in cc)
    ]

pub attempt-going : (o : Options) (H : List Tried) (w : ℕ) → is_done o H w ≡ false → next_try o H w ≡ Some (try_after o (last_by w H))
unfolding next_try
attempt-going o H w going = rw going refl

module _ (b : Base) (H : List Tried) (w n again : ℕ) (legal : AreLegalButDraws b H) (next : try_after b.options (last_by w H) ≡ record { number = n; again = again }) where
  pub going-below : is_done b.options H w ≡ false → n < b.options.moves
  going-below going =
      let attempt = attempt-going b.options H w going ∙ ap (λ (a : TryNumber). Some a) next in
      (next-below b H w (record { number = n; again = again }) legal attempt).0

  pub below-going : n < b.options.moves → is_done b.options H w ≡ false
  unfolding is_done
  below-going below = by_case (is_done_after b.options (last_by w H)) refl
    where
      by_case : (t : Bool) → is_done_after b.options (last_by w H) ≡ t → t ≡ false
      by_case true done =
          let most = done-most b.options (last_by w H) done in
          let number : (try_after b.options (last_by w H)).number ≡ n = ap (λ (a : TryNumber). a.number) next in
          absurd (omega (arith, most, number, below))
      by_case false going = refl

  pub past-done : b.options.moves ≤ n → is_done b.options H w ≡ true
  past-done past = by_case (is_done b.options H w) refl
    where
      by_case : (t : Bool) → is_done b.options H w ≡ t → t ≡ true
      by_case true done = refl
      by_case false going = let below = going-below going in absurd (omega (arith, below, past))

  pub next-is : n < b.options.moves → next_try b.options H w ≡ Some (record { number = n; again = again })
  next-is below = attempt-going b.options H w (below-going below) ∙ ap (λ (a : TryNumber). Some a) next
