-- Prices as functions, what they take in at most, and what a timetable's costs are worth.
use Rattle.std.specs.Prelude.{◌≡◌, ◌≤◌, ℕ, ◌+◌, ◌-◌, ◌*◌, ◌^◌, min, slice_index, List, unsigned_abs}
use Rattle.ih_tables.specs.Bills.{at}
use Rattle.std.specs.Option.{option_map_or}
use Rattle.ih_tables.specs.declared.drafts.Draft.{Draft}
use Rattle.ih_tables.specs.Sizes.{patient_count, room_count, theatre_count, surgeon_count, nurse_count, shift_count}
use Rattle.ih_tables.specs.Works.{max_load}
use Rattle.ih_plan.specs.Timetable.{Timetable}
use Rattle.ih_plan.specs.Sums.{sum_below}
use Rattle.ih_plan.specs.Costs.{capacity_of, surgeon_maximum, theatre_availability}
use Rattle.ih_plan.specs.BillOf.{missing_skill, nurses_seen, overloads, open_theatres, delays, optional_left_out}
use Rattle.ih_bound.specs.declared.prices.Rates.{Rates}
use Rattle.ih_bound.specs.declared.prices.Prices.{Prices}

-- The price of a bed by day, of a surgeon's and of a theatre's minute by number and day, and of a unit of workload by
-- nurse and shift. And a share in an opening, by patient, theatre and day: what the patient pays there besides minutes.
pub record Tariff : Type 0 where
  pub bed : ℕ → ℕ
  pub surgeon : ℕ → ℕ → ℕ
  pub theatre : ℕ → ℕ → ℕ
  pub work : ℕ → ℕ → ℕ
  pub share : ℕ → ℕ → ℕ → ℕ

-- a price of a list, no more than so much
abbrev pub price_in : List ℕ → ℕ → ℕ → ℕ
price_in prices i most = min (slice_index prices i) most

-- prices of lists, kept in range; workload is never dearer than an overload
abbrev pub tariff_of : Draft → Rates → Prices → Tariff
tariff_of I rates m = record {
  bed = λ d. price_in m.bed.items d (2 ^ 36);
  surgeon = λ s d. price_in m.surgeon.items (I.days * s + d) (2 ^ 29);
  theatre = λ t d. price_in m.theatre.items (I.days * t + d) (2 ^ 29);
  work = λ n k. price_in m.work.items (shift_count I * n + k) rates.load;
  share = λ p i d. price_in m.share.items (patient_count I * (I.days * i + d) + p) (2 ^ 29);
}

-- how many persons all rooms are for
abbrev pub all_beds : Draft → ℕ
all_beds I = sum_below (room_count I) (capacity_of I)

-- the maximum load of nurse n in shift k, and 0 where the shift isn't worked
abbrev pub load_limit : Draft → ℕ → ℕ → ℕ
load_limit I n k = option_map_or (λ (most : ℕ). most) (max_load I n k) 0

-- what all beds, minutes and workloads that there are come to at these prices; a theatre's minutes and shares only
-- above what it is worth to open it
abbrev pub bed_income : Draft → Tariff → ℕ
bed_income I t = sum_below I.days (λ d. t.bed d * all_beds I)

abbrev pub surgeon_income : Draft → Tariff → ℕ
surgeon_income I t = sum_below (surgeon_count I) (λ s. sum_below I.days (λ d. t.surgeon s d * surgeon_maximum I s d))

-- the shares of all patients in theatre i on day d
abbrev pub all_shares : Draft → Tariff → ℕ → ℕ → ℕ
all_shares I t i d = sum_below (patient_count I) (λ p. t.share p i d)

abbrev pub theatre_income : Draft → Rates → Tariff → ℕ
theatre_income I rates t =
    sum_below (theatre_count I) (λ i. sum_below I.days (λ d.
    t.theatre i d * theatre_availability I i d + all_shares I t i d - rates.theatre))

abbrev pub work_income : Draft → Tariff → ℕ
work_income I t = sum_below (nurse_count I) (λ n. sum_below (shift_count I) (λ k. t.work n k * load_limit I n k))

unfoldable pub income : Draft → Rates → Tariff → ℕ
income I rates t = bed_income I t + surgeon_income I t + theatre_income I rates t + work_income I t

-- what the costs of a timetable are worth: all but mixed ages and transfers
unfoldable pub worth : Draft → Rates → Timetable → ℕ
worth I rates P =
    rates.skill * missing_skill I P + rates.nurse * nurses_seen I P + rates.load * overloads I P
    + rates.theatre * open_theatres I P + rates.delay * delays I P + rates.left_out * optional_left_out I P

-- weight k of the instance
abbrev pub weight : Draft → ℕ → ℕ
weight I k = unsigned_abs (at I.weights.w k)

-- the rates are the weights in parts
pub record AreWeights (I : Draft) (rates : Rates) : Type 0 where
  pub skill : rates.skill ≡ 4096 * weight I 1
  pub nurse : rates.nurse ≡ 4096 * weight I 2
  pub load : rates.load ≡ 4096 * weight I 3
  pub theatre : rates.theatre ≡ 4096 * weight I 4
  pub delay : rates.delay ≡ 4096 * weight I 6
  pub left_out : rates.left_out ≡ 4096 * weight I 7

-- n is at least so much, or the greatest number of 64 bits
abbrev pub AtLeast : ℕ → ℕ → Type 0
AtLeast total n = min total 18446744073709551615 ≤ n
