-- What prices show, and by how much less they would show with more of a thing.
use Rattle.std.specs.Prelude.{◌≡◌, ℕ, zero, suc, ◌+◌, ◌-◌, ◌*◌, ◌/◌, ◌%◌, ◌<◌, ◌≤◌, ◌==◌, ◌&&◌, ◌⊎◌, nat_lt, nat_le, if◌then◌else◌, List, [], ◌∷◌, ◌++◌, length, All, AllPairs, Contains, slice_index, slice_get, codes, decimal, flat_map, ⊤}
use Rattle.std.specs.Int.{div_ceil}
use Rattle.std.specs.Option.{option_map_or}
use Rattle.ih_tables.specs.declared.drafts.Draft.{Draft}
use Rattle.ih_tables.specs.declared.drafts.Surgeon.{Surgeon}
use Rattle.ih_tables.specs.declared.drafts.Theatre.{Theatre}
use Rattle.ih_tables.specs.Sizes.{person_count, surgeon_count, theatre_count}
use Rattle.ih_plan.specs.Timetable.{Timetable}
use Rattle.ih_plan.specs.Sums.{sum_below, bit}
use Rattle.ih_plan.specs.Costs.{surgeon_maximum, theatre_availability}
use Rattle.ih_bound.specs.declared.outcomes.Priced.{Priced}
use Rattle.ih_bound.specs.declared.outcomes.Outcome.{Outcome}
use Rattle.ih_bound.specs.declared.outcomes.Outcome.TheVariants.{Infeasible, AtLeast}
use Rattle.ih_bound.specs.declared.prices.Rates.{Rates}
use Rattle.ih_bound.specs.declared.scarcity.Thing.{Thing}
use Rattle.ih_bound.specs.declared.scarcity.Thing.TheVariants.{Beds, OfSurgeon, OfTheatre}
use Rattle.ih_bound.specs.Bounds.{IsFeasible}
use Rattle.ih_bound.specs.Paid.{paid}
use Rattle.ih_bound.specs.Tariffs.{Tariff, AreWeights, all_beds, all_shares, tariff_of, work_income}

-- ---- what prices show

-- How much there is: beds by day, and a surgeon's and a theatre's minutes by number and day.
pub record Supply : Type 0 where
  pub beds : ℕ → ℕ
  pub surgeon : ℕ → ℕ → ℕ
  pub theatre : ℕ → ℕ → ℕ

-- what the instance has
abbrev pub supply_of : Draft → Supply
supply_of I = record { beds = λ d. all_beds I; surgeon = surgeon_maximum I; theatre = theatre_availability I }

-- one bed more on a day, or 60 minutes more of a surgeon or a theatre
abbrev pub with_more : Supply → Thing → ℕ → Supply
with_more s Beds day = record s { beds = λ d. s.beds d + (if d == day then 1 else 0) }
with_more s (OfSurgeon n) day = record s { surgeon = λ i d. s.surgeon i d + (if (i == n.0) && (d == day) then 60 else 0) }
with_more s (OfTheatre n) day = record s { theatre = λ i d. s.theatre i d + (if (i == n.0) && (d == day) then 60 else 0) }

-- what it all comes to at these prices: of what the instance has it is its income
unfoldable pub income_of : Draft → Rates → Tariff → Supply → ℕ
income_of I rates t s =
    sum_below I.days (λ d. t.bed d * s.beds d)
    + sum_below (surgeon_count I) (λ i. sum_below I.days (λ d. t.surgeon i d * s.surgeon i d))
    + sum_below (theatre_count I) (λ i. sum_below I.days (λ d. t.theatre i d * s.theatre i d + all_shares I t i d - rates.theatre))
    + work_income I t

-- In each feasible timetable all persons together pay at these prices so much more, at least, than what there is comes to.
-- So it costs at least so much.
abbrev pub Shows : Draft → Rates → Tariff → ℕ → Type 0
Shows I rates t value =
    (P : Timetable) → IsFeasible I P
    → value ≤ sum_below (person_count I) (paid I rates t P) - income_of I rates t (supply_of I)

-- by so much less is that with more of a thing on a day
abbrev pub relief : Draft → Rates → Tariff → Thing → ℕ → ℕ
relief I rates t thing day =
    income_of I rates t (with_more (supply_of I) thing day) - income_of I rates t (supply_of I)

-- ---- the ten dearest

-- a thing of the instance
abbrev pub IsThing : Draft → Thing → Type 0
IsThing I Beds = ⊤
IsThing I (OfSurgeon s) = s.0 < surgeon_count I
IsThing I (OfTheatre t) = t.0 < theatre_count I

-- All things have rows, of a place a day: beds, each surgeon, each theatre.
abbrev pub thing_in : Draft → ℕ → Thing
thing_in I row =
    if row == 0 then Beds
    else (if nat_le row (surgeon_count I) then OfSurgeon (record { 0 = row - 1 })
    else OfTheatre (record { 0 = row - 1 - surgeon_count I }))

abbrev pub place_count : Draft → ℕ
place_count I = (1 + surgeon_count I + theatre_count I) * I.days

-- the relief of a place, in whole points: of 4,096 parts each
abbrev pub points_at : Draft → Rates → Tariff → ℕ → ℕ
points_at I rates t p = relief I rates t (thing_in I (p / I.days)) (p % I.days) / 4096

-- f 0 to f (n - 1)
unfoldable pub list_below : ℕ → (ℕ → ℕ) → List ℕ
list_below zero f = []
list_below (suc n) f = list_below n f ++ f n ∷ []

-- the points of all places
abbrev pub all_points : Draft → Rates → Tariff → List ℕ
all_points I rates t = list_below (place_count I) (points_at I rates t)

-- p is told before q: it has more, or as many at an earlier place
abbrev pub comes_before : List ℕ → ℕ → ℕ → Type 0
comes_before points p q = slice_index points q < slice_index points p + bit (nat_lt p q)

-- Ten places at most, the greatest first. Each other place has nothing, or comes behind all ten.
pub record AreGreatest (points places : List ℕ) : Type 0 where
  pub few : length places ≤ 10
  pub each : All (λ p. (p < length points) × (1 ≤ slice_index points p)) places
  pub ordered : AllPairs (comes_before points) places
  pub rest : (q : ℕ) → q < length points → 1 ≤ slice_index points q
      → Contains places q ⊎ ((length places ≡ 10) × All (λ p. comes_before points p q) places)

-- ---- what is said

abbrev pub surgeon_id : Draft → ℕ → List ℕ
surgeon_id I s = option_map_or (λ (a : Surgeon). a.id) (slice_get I.surgeons s) []

abbrev pub theatre_id : Draft → ℕ → List ℕ
theatre_id I t = option_map_or (λ (a : Theatre). a.id) (slice_get I.operating_theaters t) []

abbrev pub more_text : Draft → Thing → List ℕ
more_text I Beds = codes "one more bed"
more_text I (OfSurgeon s) = codes "60 more minutes of surgeon " ++ surgeon_id I s.0
more_text I (OfTheatre t) = codes "60 more minutes in theatre " ++ theatre_id I t.0

abbrev pub points_text : ℕ → List ℕ
points_text n = decimal n ++ (if n == 1 then codes " point\n" else codes " points\n")

-- one of the ten
abbrev pub hint_line : Draft → List ℕ → ℕ → List ℕ
hint_line I points p =
    more_text I (thing_in I (p / I.days))
    ++ (codes " on day " ++ (decimal (p % I.days) ++ (codes ": up to " ++ points_text (slice_index points p))))

abbrev pub last_line : List ℕ → List ℕ
last_line [] = codes "no bed and no hour more would take a point off the bound above, at its prices\n"
last_line (p ∷ places) = codes "these are hints for the cost: by so much the bound above falls, at its prices\n"

unfoldable pub hints_text : Draft → List ℕ → List ℕ → List ℕ
hints_text I points places = flat_map (hint_line I points) places ++ last_line places

-- There are prices that show just what is printed, rounded up to points, and what is said is of the ten greatest points
-- at these prices.
pub record TellsPrices (I : Draft) (value : ℕ) (text : List ℕ) : Type 0 where
  pub rates : Rates
  pub tariff : Tariff
  pub shown : ℕ
  pub places : List ℕ
  pub weights : AreWeights I rates
  pub shows : Shows I rates tariff shown
  pub printed : value ≡ div_ceil shown 4096
  pub greatest : AreGreatest (all_points I rates tariff) places
  pub said : text ≡ hints_text I (all_points I rates tariff) places

-- where there is a bound, it is told of its prices
abbrev pub IsHinted : Draft → Outcome → List ℕ → Type 0
IsHinted I Infeasible text = text ≡ []
IsHinted I (AtLeast b) text = TellsPrices I b.value text

-- The rates are the weights, and the prices show what the bound is, rounded up.
pub record IsOfPrices (I : Draft) (f : Priced) (value : ℕ) : Type 0 where
  pub weights : AreWeights I f.rates
  pub shows : Shows I f.rates (tariff_of I f.rates f.prices) f.shown
  pub rounded : value ≡ div_ceil f.shown 4096

-- a bound comes with prices that show it
abbrev pub HasPrices : Draft → Priced → Outcome → Type 0
HasPrices I f Infeasible = ⊤
HasPrices I f (AtLeast b) = IsOfPrices I f b.value
