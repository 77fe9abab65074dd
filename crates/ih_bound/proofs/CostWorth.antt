-- What costs are worth at the instance's weights is at most the cost, in parts.
use Rattle.std.proofs.Common.{◌≡◌, ℕ, ◌+◌, ◌*◌, ◌≤◌, refl, arith, ap, zero, suc, List, [], ◌∷◌, pos, negsuc, ℤ}
use Rattle.std.specs.Prelude.{◌≤ℤ◌, unsigned_abs, All}
use Rattle.std.proofs.lemmas.List.Elements.{All-head, All-tail}
use Rattle.std.proofs.lemmas.Int.{ints}
use Rattle.ih_tables.specs.declared.drafts.Draft.{Draft}
use Rattle.ih_tables.specs.Bills.{at, cost, signed_sum}
use Rattle.ih_tables.specs.Valid.{IsValid}
use Rattle.ih_plan.specs.Timetable.{Timetable}
use Rattle.ih_plan.specs.BillOf.{bill_of, mixed_ages, missing_skill, nurses_seen, overloads, open_theatres, transfers, delays, optional_left_out}
use Rattle.ih_bound.specs.declared.prices.Rates.{Rates}
use Rattle.ih_bound.specs.Tariffs.{worth, weight, AreWeights}

natural : (z : ℤ) → pos 0 ≤ℤ z → z ≡ pos (unsigned_abs z)
natural (pos n) h = refl
natural (negsuc n) h = absurd (omega (arith, ints))

abbrev IsInRange : ℤ → Type 0
IsInRange w = (pos 0 ≤ℤ w) × (w ≤ℤ pos 100000)

in-range : (xs : List ℤ) (k : ℕ) → All IsInRange xs → IsInRange (at xs k)
in-range [] k h = (omega (arith, ints), omega (arith, ints))
in-range (x ∷ xs) zero h = All-head IsInRange x xs h
in-range (x ∷ xs) (suc k) h = in-range xs k (All-tail IsInRange x xs h)

module _ (I : Draft) (valid : IsValid I) where
  is-weight : (k : ℕ) → at I.weights.w k ≡ pos (weight I k)
  is-weight k = natural (at I.weights.w k) (in-range I.weights.w k valid.weights).0

  -- no weight is above 100,000
  pub weight-most : (k : ℕ) → weight I k ≤ 100000
  weight-most k = let most = rw (is-weight k) at ((in-range I.weights.w k valid.weights).1) in omega (arith, ints, most)

  module _ (P : Timetable) where
    weighted : cost I.weights (bill_of I P) ≡ pos (0 + mixed_ages I P * weight I 0 + missing_skill I P * weight I 1 + nurses_seen I P * weight I 2 + overloads I P * weight I 3
        + open_theatres I P * weight I 4 + transfers I P * weight I 5 + delays I P * weight I 6 + optional_left_out I P * weight I 7)
    unfolding bill_of signed_sum
    weighted = rw (is-weight 0, is-weight 1, is-weight 2, is-weight 3, is-weight 4, is-weight 5, is-weight 6, is-weight 7) refl

    -- in parts of the cost, 4,096 of which make a unit
    pub worth-cost : (rates : Rates) (v : ℕ) → AreWeights I rates → 4096 * v ≤ worth I rates P + 4095 → pos v ≤ℤ cost I.weights (bill_of I P)
    unfolding worth
    worth-cost rates v are h =
        let skill = ap (λ r. r * missing_skill I P) are.skill in
        let nurse = ap (λ r. r * nurses_seen I P) are.nurse in
        let load = ap (λ r. r * overloads I P) are.load in
        let theatre = ap (λ r. r * open_theatres I P) are.theatre in
        let late = ap (λ r. r * delays I P) are.delay in
        let out = ap (λ r. r * optional_left_out I P) are.left_out in
        rw weighted (omega (arith, ints, h, skill, nurse, load, theatre, late, out))

-- without weights nothing is worth anything
pub worth-none : (I : Draft) (P : Timetable) (rates : Rates) → rates.skill ≡ 0 → rates.nurse ≡ 0 → rates.load ≡ 0 → rates.theatre ≡ 0 → rates.delay ≡ 0 → rates.left_out ≡ 0 → worth I rates P ≡ 0
unfolding worth
worth-none I P rates skill nurse load theatre late out =
    let one = ap (λ r. r * missing_skill I P) skill in
    let two = ap (λ r. r * nurses_seen I P) nurse in
    let three = ap (λ r. r * overloads I P) load in
    let four = ap (λ r. r * open_theatres I P) theatre in
    let five = ap (λ r. r * delays I P) late in
    let six = ap (λ r. r * optional_left_out I P) out in
    omega (arith, one, two, three, four, five, six)
