-- Weak duality of care for a stay, whoever has it.
use Rattle.std.proofs.Common.{◌≡◌, ℕ, ◌-◌, ◌*◌, ◌<◌, ◌≤◌, refl, arith, ◌∙◌, Bool, true, false, List, Some}
use Rattle.std.specs.Prelude.{if◌then◌else◌, ◌^◌, min, is_some, slice_index}
use Rattle.ih_tables.specs.declared.drafts.Draft.{Draft}
use Rattle.ih_tables.specs.Sizes.{shift_count}
use Rattle.ih_tables.specs.Works.{max_load}
use Rattle.ih_tables.specs.Valid.{IsValid}
use Rattle.ih_plan.specs.Timetable.{Timetable}
use Rattle.ih_plan.specs.Sums.{sum_below}
use Rattle.ih_plan.specs.Persons.{person_of}
use Rattle.ih_plan.specs.Presence.{admission_of, day_of, in_span, entry_of, end_from}
use Rattle.ih_plan.proofs.SumLemmas.{sum_below-same, sum_below-zero}
use Rattle.ih_plan.proofs.Spans.{span-shifts, span-covers, span-outside, span-true}
use Rattle.ih_bound.specs.declared.prices.Rates.{Rates}
use Rattle.ih_bound.specs.Tariffs.{Tariff}
use Rattle.ih_bound.specs.Paid.{care_price}
use Rattle.ih_bound.specs.Stays.{Asked, IsAskedBy, number_at, spared_in, SparesFew, BoundsCare}
use Rattle.ih_bound.proofs.SumLaws.{sum_below-past}
use Rattle.ih_bound.proofs.CareDuality.{spared, care-duality}

-- ---- sums over a stay

pub outside-none : (numbers : List ℕ) (s : Asked) (k : ℕ) → (s.first ≤ k → k < s.last → ⊥) → number_at numbers s k ≡ 0
outside-none numbers s k out = rw (span-outside s.first s.last k out) refl

if_none : (b : Bool) (x c : ℕ) → x ≡ 0 → (if b then x - c else 0) ≡ 0
if_none true x c e = omega arith
if_none false x c e = refl

pub outside-spared : (I : Draft) (rates : Rates) (t : Tariff) (s : Asked) (numbers : List ℕ) (n k : ℕ) → (s.first ≤ k → k < s.last → ⊥) → spared_in I rates t s numbers n k ≡ 0
outside-spared I rates t s numbers n k out =
    if_none (is_some (max_load I n k)) (number_at numbers s k) (care_price I rates t (slice_index s.skill (k - s.first)) (slice_index s.load (k - s.first)) k n)
    (outside-none numbers s k out)

-- nothing comes before the first shift
pub none-before : (s : Asked) (f : ℕ → ℕ) → ((k : ℕ) → (s.first ≤ k → k < s.last → ⊥) → f k ≡ 0) → sum_below s.first f ≡ 0
none-before s f none = sum_below-past 0 s.first f (omega arith) (λ k low high. none k (λ l h. omega arith)) ∙ sum_below-zero f

-- nor behind the last
pub none-behind : (s : Asked) (n : ℕ) (f : ℕ → ℕ) → s.last ≤ n → ((k : ℕ) → (s.first ≤ k → k < s.last → ⊥) → f k ≡ 0) → sum_below n f ≡ sum_below s.last f
none-behind s n f h none = sum_below-past s.last n f h (λ k low high. none k (λ l m. omega arith))

-- ---- duality

entry-at : (I : Draft) (P : Timetable) (x a r k : ℕ) → admission_of I P x ≡ Some (record { room = r; day = a }) → entry_of I P x k ≡ k - 3 * a
unfolding entry_of
entry-at I P x a r k e = rw e refl

same-spared : (I : Draft) (rates : Rates) (t : Tariff) (P : Timetable) (s : Asked) (numbers : List ℕ) (x a r n k : ℕ) → IsAskedBy I x a s → admission_of I P x ≡ Some (record { room = r; day = a })
    → spared I rates t P x (number_at numbers s) n k ≡ spared_in I rates t s numbers n k
same-spared I rates t P s numbers x a r n k asked adm = rw (entry-at I P x a r k adm, asked.skill, asked.load, asked.first) refl

pub stay-duality : (I : Draft) (rates : Rates) (t : Tariff) (s : Asked) (numbers : List ℕ) → IsValid I → SparesFew I rates t s numbers
    → BoundsCare I rates t s (sum_below (shift_count I) (number_at numbers s))
stay-duality I rates t s numbers valid few = λ P x a r feasible asked adm.
    care-duality I P valid feasible rates t x (record { room = r; day = a }) asked.person adm (number_at numbers s)
    (λ k hk away.
    let n = (person_of I x).length_of_stay in
    let inside : in_span s.first s.last k ≡ false = rw (asked.first, asked.last) (span-shifts a (end_from I a n) k ∙ (span-covers a n I.days (day_of k) (omega arith) ∙ away)) in
    rw inside refl)
    (λ n hn.
    let same = sum_below-same (shift_count I) (spared I rates t P x (number_at numbers s) n) (spared_in I rates t s numbers n) (λ k l. same-spared I rates t P s numbers x a r n k asked adm) in
    omega (arith, same, few n hn))

-- ---- steps of sums over a stay

pub inside-number : (numbers : List ℕ) (s : Asked) (k : ℕ) → s.first ≤ k → k < s.last → number_at numbers s k ≡ min (slice_index numbers k) (2 ^ 50)
inside-number numbers s k low high = rw (span-true s.first s.last k low high) refl
