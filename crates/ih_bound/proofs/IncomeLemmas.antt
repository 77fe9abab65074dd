-- What beds, surgeons, theatres and workloads are paid: no more than all that there are come to.
use Rattle.std.proofs.Common.{◌≡◌, ℕ, ◌+◌, ◌-◌, ◌*◌, ◌<◌, ◌≤◌, refl, arith, sym, ap, ◌∙◌, Bool, true, false, List, [], ◌∷◌, Option, Some, None}
use Rattle.std.specs.Prelude.{if◌then◌else◌, ◌&&◌, ◌==◌, not, sum_by}
use Rattle.std.proofs.lemmas.Bool.{eq-eqb, eqb-true}
use Rattle.std.specs.Option.{option_map_or}
use Rattle.std.proofs.lemmas.Nat.{mul-le}
use Rattle.ih_tables.specs.declared.drafts.Draft.{Draft}
use Rattle.ih_tables.specs.Sizes.{patient_count, person_count, room_count, nurse_count, shift_count, surgeon_count, theatre_count}
use Rattle.ih_tables.specs.Valid.{IsValid}
use Rattle.ih_tables.specs.Works.{max_load}
use Rattle.ih_plan.specs.Timetable.{Timetable, care_of, stay_of}
use Rattle.ih_plan.specs.Sums.{sum_below, bit}
use Rattle.ih_plan.specs.Persons.{person_of}
use Rattle.ih_plan.specs.Presence.{Admission, admission_of, is_in, is_present, present, covers, day_of, workload_of}
use Rattle.ih_plan.specs.Costs.{capacity_of, duration_of, is_empty, is_number, load_of, minutes, not_working, operated, operated_by, operated_in, admitted_on, overload, surgeon_maximum, surgeon_of, theatre_availability}
use Rattle.ih_plan.specs.BillOf.{open_theatres, overloads}
use Rattle.ih_plan.proofs.SumLemmas.{sum_below-same, sum_by-which_below, length-which_below}
use Rattle.ih_plan.proofs.SumBounds.{sum_below-add, sum_below-le_each, sum_below-none, sum_below-swap}
use Rattle.ih_validate.proofs.LoadLemmas.{admission-room}
use Rattle.ih_bound.specs.declared.prices.Rates.{Rates}
use Rattle.ih_bound.specs.Bounds.{IsFeasible}
use Rattle.ih_bound.specs.Tariffs.{Tariff, all_beds, all_shares, bed_income, surgeon_income, theatre_income, work_income, load_limit}
use Rattle.ih_bound.specs.Paid.{is_there, bed_paid}
use Rattle.ih_bound.proofs.SumLaws.{sum_below-one, sum_below-times, sum_below-turn}
use Rattle.ih_bound.proofs.RulesKept.{surgeon-fits, theatre-fits, room-fits, on-duty}

times-bit : (b : Bool) (c : ℕ) → (if b then c else 0) ≡ c * bit b
times-bit true c = omega arith
times-bit false c = omega arith

if-fits : (b : Bool) (c : ℕ) → (if b then c else 0) ≤ c
if-fits true c = omega arith
if-fits false c = omega arith

-- who is there is in one room
one_room : (I : Draft) (o : Option Admission) (n d : ℕ) → ((a : Admission) → o ≡ Some a → a.room < room_count I)
    → sum_below (room_count I) (λ r. bit (is_in o n r d)) ≡ bit (is_there o n d)
one_room I None n d h = sum_below-none (room_count I)
one_room I (Some a) n d h =
    sum_below-one (room_count I) a.room (λ r. bit ((a.room == r) && covers a.day n d)) (h a refl)
    (λ i l ne. other (a.room == i) (λ e. ne (sym (eqb-true a.room i e))))
    ∙ rw (eq-eqb a.room a.room refl) refl
  where
    other : (b : Bool) → (b ≡ true → ⊥) → bit (b && covers a.day n d) ≡ 0
    other true apart = absurd (apart refl)
    other false apart = refl

module _ (I : Draft) (P : Timetable) (valid : IsValid I) (feasible : IsFeasible I P) where
  -- ---- beds

  count-there : (d : ℕ) → d < I.days → sum_below (person_count I) (λ x. bit (is_there (admission_of I P x) (person_of I x).length_of_stay d)) ≤ all_beds I
  unfolding present
  count-there d hd =
      let X = person_count I in
      let R = room_count I in
      let rooms = sum_below-same X (λ x. bit (is_there (admission_of I P x) (person_of I x).length_of_stay d)) (λ x. sum_below R (λ r. bit (is_present I P r d x)))
      (λ x l. sym (one_room I (admission_of I P x) (person_of I x).length_of_stay d (λ a e. admission-room I P x a valid feasible.plan e))) in
      let swap = sum_below-swap X R (λ x r. bit (is_present I P r d x)) in
      let fit = sum_below-le_each R (λ r. sum_below X (λ x. bit (is_present I P r d x))) (capacity_of I)
      (λ r l. omega (arith, length-which_below X (is_present I P r d), room-fits I P feasible r d l hd)) in
      omega (arith, rooms, swap, fit)

  -- what all persons pay for beds
  pub beds-paid : (t : Tariff) → sum_below (person_count I) (bed_paid I t P) ≤ bed_income I t
  unfolding bed_paid
  beds-paid t =
      let X = person_count I in
      let there : ℕ → ℕ → Bool = λ x d. is_there (admission_of I P x) (person_of I x).length_of_stay d in
      let swap = sum_below-swap X I.days (λ x d. if there x d then t.bed d else 0) in
      let each = sum_below-le_each I.days (λ d. sum_below X (λ x. if there x d then t.bed d else 0)) (λ d. t.bed d * all_beds I)
      (λ d l.
      let bits = sum_below-same X (λ x. if there x d then t.bed d else 0) (λ x. t.bed d * bit (there x d)) (λ x h. times-bit (there x d) (t.bed d)) in
      let times = sum_below-times X (t.bed d) (λ x. bit (there x d)) in
      let fit = mul-le (t.bed d) (sum_below X (λ x. bit (there x d))) (t.bed d) (all_beds I) (omega arith) (count-there d l) in
      omega (arith, bits, times, fit)) in
      omega (arith, swap, each)

  -- ---- surgeons and theatres

  -- at a price for each number and day, what a patient pays at one number and day
  abbrev pub surgeon_part : Tariff → ℕ → ℕ → ℕ → ℕ
  surgeon_part t s d p = t.surgeon s d * (if is_number (surgeon_of I p) s && admitted_on d (stay_of P p) then duration_of I p else 0)

  abbrev pub theatre_part : Tariff → ℕ → ℕ → ℕ → ℕ
  theatre_part t i d p =
      t.theatre i d * (if operated_in i d (stay_of P p) then duration_of I p else 0) + (if operated_in i d (stay_of P p) then t.share p i d else 0)

  surgeon-minutes : (t : Tariff) (s d : ℕ) → t.surgeon s d * minutes I (operated_by I P s d) ≡ sum_below (patient_count I) (surgeon_part t s d)
  unfolding operated_by
  surgeon-minutes t s d =
      ap (λ m. t.surgeon s d * m) (sum_by-which_below (duration_of I) (patient_count I) (λ p. is_number (surgeon_of I p) s && admitted_on d (stay_of P p)))
      ∙ sym (sum_below-times (patient_count I) (t.surgeon s d) (λ p. if is_number (surgeon_of I p) s && admitted_on d (stay_of P p) then duration_of I p else 0))

  -- in a theatre patients pay for its minutes, and their shares
  theatre-parts : (t : Tariff) (i d : ℕ) → sum_below (patient_count I) (theatre_part t i d)
      ≡ t.theatre i d * minutes I (operated I P i d) + sum_by (λ p. t.share p i d) (operated I P i d)
  unfolding operated
  theatre-parts t i d =
      let N = patient_count I in
      let long : ℕ → ℕ = λ p. if operated_in i d (stay_of P p) then duration_of I p else 0 in
      let shared : ℕ → ℕ = λ p. if operated_in i d (stay_of P p) then t.share p i d else 0 in
      let times = sum_below-times N (t.theatre i d) long in
      let all = ap (λ m. t.theatre i d * m) (sum_by-which_below (duration_of I) N (λ p. operated_in i d (stay_of P p))) in
      let shares = sum_by-which_below (λ p. t.share p i d) N (λ p. operated_in i d (stay_of P p)) in
      omega (arith, sum_below-add N (λ p. t.theatre i d * long p) shared, times, all, shares)

  -- their shares are among those of all patients
  shares-fit : (t : Tariff) (i d : ℕ) → sum_by (λ p. t.share p i d) (operated I P i d) ≤ all_shares I t i d
  unfolding operated
  shares-fit t i d =
      let N = patient_count I in
      let shares = sum_by-which_below (λ p. t.share p i d) N (λ p. operated_in i d (stay_of P p)) in
      let each = sum_below-le_each N (λ p. if operated_in i d (stay_of P p) then t.share p i d else 0) (λ p. t.share p i d) (λ p l. if-fits (operated_in i d (stay_of P p)) (t.share p i d)) in
      omega (arith, shares, each)

  -- what all patients pay for surgeons
  pub surgeons-paid : (t : Tariff) → sum_below (patient_count I) (λ p. sum_below I.days (λ d. sum_below (surgeon_count I) (λ s. surgeon_part t s d p))) ≤ surgeon_income I t
  surgeons-paid t =
      let turn = sum_below-turn (surgeon_count I) I.days (patient_count I) (surgeon_part t) in
      let each = sum_below-le_each (surgeon_count I) (λ s. sum_below I.days (λ d. sum_below (patient_count I) (surgeon_part t s d))) (λ s. sum_below I.days (λ d. t.surgeon s d * surgeon_maximum I s d))
      (λ s hs. sum_below-le_each I.days (λ d. sum_below (patient_count I) (surgeon_part t s d)) (λ d. t.surgeon s d * surgeon_maximum I s d)
      (λ d hd.
      let fit = mul-le (t.surgeon s d) (minutes I (operated_by I P s d)) (t.surgeon s d) (surgeon_maximum I s d) (omega arith) (surgeon-fits I P feasible s d hs hd) in
      omega (arith, surgeon-minutes t s d, fit))) in
      omega (arith, turn, each)

  one-opening : (rates : Rates) (t : Tariff) (i d : ℕ) → i < theatre_count I → d < I.days
      → t.theatre i d * minutes I (operated I P i d) + sum_by (λ p. t.share p i d) (operated I P i d)
      ≤ rates.theatre * bit (not (is_empty (operated I P i d))) + (t.theatre i d * theatre_availability I i d + all_shares I t i d - rates.theatre)
  one-opening rates t i d hi hd =
      let fit = mul-le (t.theatre i d) (minutes I (operated I P i d)) (t.theatre i d) (theatre_availability I i d) (omega arith) (theatre-fits I P feasible i d hi hd) in
      by_case (operated I P i d) fit (shares-fit t i d)
    where
      by_case : (ps : List ℕ) → t.theatre i d * minutes I ps ≤ t.theatre i d * theatre_availability I i d
          → sum_by (λ p. t.share p i d) ps ≤ all_shares I t i d
          → t.theatre i d * minutes I ps + sum_by (λ p. t.share p i d) ps
          ≤ rates.theatre * bit (not (is_empty ps)) + (t.theatre i d * theatre_availability I i d + all_shares I t i d - rates.theatre)
      by_case [] fit shares = omega arith
      by_case (p ∷ ps) fit shares = omega (arith, fit, shares)

  -- what all patients pay for theatres: what open theatres are worth, and no more than minutes and shares above that
  pub theatres-paid : (rates : Rates) (t : Tariff) → sum_below (patient_count I) (λ p. sum_below I.days (λ d. sum_below (theatre_count I) (λ i. theatre_part t i d p)))
      ≤ rates.theatre * open_theatres I P + theatre_income I rates t
  unfolding open_theatres
  theatres-paid rates t =
      let T = theatre_count I in
      let open_on : ℕ → ℕ → ℕ = λ i d. bit (not (is_empty (operated I P i d))) in
      let above : ℕ → ℕ → ℕ = λ i d. t.theatre i d * theatre_availability I i d + all_shares I t i d - rates.theatre in
      let turn = sum_below-turn T I.days (patient_count I) (theatre_part t) in
      let each = sum_below-le_each T (λ i. sum_below I.days (λ d. sum_below (patient_count I) (theatre_part t i d)))
      (λ i. rates.theatre * sum_below I.days (open_on i) + sum_below I.days (above i))
      (λ i hi.
      let days = sum_below-le_each I.days (λ d. sum_below (patient_count I) (theatre_part t i d)) (λ d. rates.theatre * open_on i d + above i d)
      (λ d hd. omega (arith, theatre-parts t i d, one-opening rates t i d hi hd)) in
      let both = sum_below-add I.days (λ d. rates.theatre * open_on i d) (above i) in
      let times = sum_below-times I.days rates.theatre (open_on i) in
      omega (arith, days, both, times)) in
      let both = sum_below-add T (λ i. rates.theatre * sum_below I.days (open_on i)) (λ i. sum_below I.days (above i)) in
      let times = sum_below-times T rates.theatre (λ i. sum_below I.days (open_on i)) in
      omega (arith, turn, each, both, times)

  -- ---- workload

  -- who doesn't work has no load
  idle : (n k : ℕ) → k < shift_count I → max_load I n k ≡ None → load_of I P n k ≡ 0
  unfolding load_of
  idle n k hk off =
      sum_below-same (room_count I) (λ r. if is_number (care_of P r k) n then sum_by (workload_of I P k) (present I P r (day_of k)) else 0) (λ r. 0)
      (λ r hr. by_nurse (care_of P r k) (on-duty I P feasible r k hr hk) (sum_by (workload_of I P k) (present I P r (day_of k))))
      ∙ sum_below-none (room_count I)
    where
      by_nurse : (o : Option ℕ) → not_working I k o ≡ false → (y : ℕ) → (if is_number o n then y else 0) ≡ 0
      by_nurse None duty y = refl
      by_nurse (Some m) duty y = by_test (m == n) (λ e. eqb-true m n e)
        where
          by_test : (b : Bool) → (b ≡ true → m ≡ n) → (if b then y else 0) ≡ 0
          by_test true same =
              let e : m ≡ n = same refl in
              let none : max_load I m k ≡ None = ap (λ i. max_load I i k) e ∙ off in
              let no : true ≡ false = rw none at duty in
              absurd cc
          by_test false same = refl

  one-load : (rates : Rates) (t : Tariff) (n k : ℕ) → t.work n k ≤ rates.load → k < shift_count I
      → t.work n k * load_of I P n k ≤ rates.load * overload (max_load I n k) (load_of I P n k) + t.work n k * load_limit I n k
  one-load rates t n k cheap hk = by_case (max_load I n k) refl
    where
      by_case : (o : Option ℕ) → max_load I n k ≡ o
          → t.work n k * load_of I P n k ≤ rates.load * overload o (load_of I P n k) + t.work n k * option_map_or (λ (most : ℕ). most) o 0
      by_case None off = rw (idle n k hk off) (omega arith)
      by_case (Some most) on =
          let load = load_of I P n k in
          let excess = mul-le (t.work n k) (load - most) rates.load (load - most) cheap (omega arith) in
          let all = mul-le (t.work n k) load (t.work n k) (load - most + most) (omega arith) (omega arith) in
          omega (arith, excess, all)

  -- the price of all workload: what overloads are worth, and no more than all maxima come to
  pub loads-paid : (rates : Rates) (t : Tariff) → ((n k : ℕ) → t.work n k ≤ rates.load)
      → sum_below (nurse_count I) (λ n. sum_below (shift_count I) (λ k. t.work n k * load_of I P n k)) ≤ rates.load * overloads I P + work_income I t
  unfolding overloads
  loads-paid rates t cheap =
      let N = nurse_count I in
      let K = shift_count I in
      let over : ℕ → ℕ → ℕ = λ n k. overload (max_load I n k) (load_of I P n k) in
      let limit : ℕ → ℕ → ℕ = λ n k. t.work n k * load_limit I n k in
      let each = sum_below-le_each N (λ n. sum_below K (λ k. t.work n k * load_of I P n k)) (λ n. rates.load * sum_below K (over n) + sum_below K (limit n))
      (λ n hn.
      let shifts = sum_below-le_each K (λ k. t.work n k * load_of I P n k) (λ k. rates.load * over n k + limit n k) (λ k hk. one-load rates t n k (cheap n k) hk) in
      let both = sum_below-add K (λ k. rates.load * over n k) (limit n) in
      let times = sum_below-times K rates.load (over n) in
      omega (arith, shifts, both, times)) in
      let both = sum_below-add N (λ n. rates.load * sum_below K (over n)) (λ n. sum_below K (limit n)) in
      let times = sum_below-times N rates.load (λ n. sum_below K (over n)) in
      omega (arith, each, both, times)
