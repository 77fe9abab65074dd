-- By how much more all that there is comes to, with more of one thing.
use Rattle.std.proofs.Common.{◌≡◌, ℕ, ◌+◌, ◌-◌, ◌*◌, ◌<◌, ◌≤◌, refl, arith}
use Rattle.std.specs.Prelude.{if◌then◌else◌, ◌&&◌, ◌==◌}
use Rattle.std.proofs.lemmas.Bool.{eq-eqb, ne_eqb, and_left, and_right}
use Rattle.ih_tables.specs.declared.drafts.Draft.{Draft}
use Rattle.ih_tables.specs.declared.ids.SurgeonNo.{SurgeonNo}
use Rattle.ih_tables.specs.declared.ids.TheatreNo.{TheatreNo}
use Rattle.ih_tables.specs.Sizes.{surgeon_count, theatre_count}
use Rattle.ih_plan.specs.Sums.{sum_below}
use Rattle.ih_plan.specs.Costs.{surgeon_maximum, theatre_availability}
use Rattle.ih_plan.proofs.SumLemmas.{sum_below-same, sum_below-but}
use Rattle.ih_bound.specs.declared.prices.Rates.{Rates}
use Rattle.ih_bound.specs.declared.scarcity.Thing.TheVariants.{Beds, OfSurgeon, OfTheatre}
use Rattle.ih_bound.specs.Tariffs.{Tariff, all_beds, all_shares, income}
use Rattle.ih_bound.specs.Hints.{income_of, supply_of, relief}

pub income-whole : (I : Draft) (rates : Rates) (t : Tariff) → income_of I rates t (supply_of I) ≡ income I rates t
unfolding income_of income
income-whole I rates t = refl

-- where one term is greater
sum-grown : (n k : ℕ) (f g : ℕ → ℕ) → k < n → g k ≤ f k → ((i : ℕ) → i < n → (i ≡ k → ⊥) → f i ≡ g i)
    → sum_below n f ≡ sum_below n g + (f k - g k)
sum-grown n k f g h more same = omega (arith, sum_below-but n k f g h same, more)

rows-grown : (m n i j : ℕ) (f g : ℕ → ℕ → ℕ) → i < m → j < n → g i j ≤ f i j
    → ((b : ℕ) → (b ≡ j → ⊥) → f i b ≡ g i b) → ((a b : ℕ) → (a ≡ i → ⊥) → f a b ≡ g a b)
    → sum_below m (λ a. sum_below n (f a)) ≡ sum_below m (λ a. sum_below n (g a)) + (f i j - g i j)
rows-grown m n i j f g hi hj more row others =
    let inner = sum-grown n j (f i) (g i) hj more (λ b l ne. row b ne) in
    let outer = sum-grown m i (λ a. sum_below n (f a)) (λ a. sum_below n (g a)) hi (omega (arith, inner))
    (λ a l ne. sum_below-same n (f a) (g a) (λ b h. others a b ne)) in
    omega (arith, inner, outer)

module _ (I : Draft) (rates : Rates) (t : Tariff) where
  pub relief-beds : (day : ℕ) → day < I.days → relief I rates t Beds day ≡ t.bed day
  unfolding income_of
  relief-beds day h =
      let f : ℕ → ℕ = λ d. t.bed d * (all_beds I + (if d == day then 1 else 0)) in
      let g : ℕ → ℕ = λ d. t.bed d * all_beds I in
      let here : f day ≡ t.bed day * (all_beds I + 1) = rw (eq-eqb day day refl) refl in
      let grown = sum-grown I.days day f g h (omega (arith, here)) (λ i l ne. rw (ne_eqb i day ne) (omega arith)) in
      omega (arith, grown, here)

  pub relief-surgeon : (n : SurgeonNo) (day : ℕ) → n.0 < surgeon_count I → day < I.days
      → relief I rates t (OfSurgeon n) day ≡ 60 * t.surgeon n.0 day
  unfolding income_of
  relief-surgeon n day hn h =
      let f : ℕ → ℕ → ℕ = λ i d. t.surgeon i d * (surgeon_maximum I i d + (if (i == n.0) && (d == day) then 60 else 0)) in
      let g : ℕ → ℕ → ℕ = λ i d. t.surgeon i d * surgeon_maximum I i d in
      let here : f n.0 day ≡ t.surgeon n.0 day * (surgeon_maximum I n.0 day + 60) = rw (eq-eqb n.0 n.0 refl, eq-eqb day day refl) refl in
      let grown = rows-grown (surgeon_count I) I.days n.0 day f g hn h (omega (arith, here))
      (λ b ne. rw (and_right (n.0 == n.0) (b == day) (ne_eqb b day ne)) (omega arith))
      (λ a b ne. rw (and_left (a == n.0) (b == day) (ne_eqb a n.0 ne)) (omega arith)) in
      omega (arith, grown, here)

  pub relief-theatre : (n : TheatreNo) (day : ℕ) → n.0 < theatre_count I → day < I.days
      → relief I rates t (OfTheatre n) day
      ≡ t.theatre n.0 day * (theatre_availability I n.0 day + 60) + all_shares I t n.0 day - rates.theatre
      - (t.theatre n.0 day * theatre_availability I n.0 day + all_shares I t n.0 day - rates.theatre)
  unfolding income_of
  relief-theatre n day hn h =
      let f : ℕ → ℕ → ℕ = λ i d. t.theatre i d * (theatre_availability I i d + (if (i == n.0) && (d == day) then 60 else 0)) + all_shares I t i d - rates.theatre in
      let g : ℕ → ℕ → ℕ = λ i d. t.theatre i d * theatre_availability I i d + all_shares I t i d - rates.theatre in
      let here : f n.0 day ≡ t.theatre n.0 day * (theatre_availability I n.0 day + 60) + all_shares I t n.0 day - rates.theatre = rw (eq-eqb n.0 n.0 refl, eq-eqb day day refl) refl in
      let grown = rows-grown (theatre_count I) I.days n.0 day f g hn h (omega (arith, here))
      (λ b ne. rw (and_right (n.0 == n.0) (b == day) (ne_eqb b day ne)) (omega arith))
      (λ a b ne. rw (and_left (a == n.0) (b == day) (ne_eqb a n.0 ne)) (omega arith)) in
      omega (arith, grown, here)
