-- The part of the bill that a room has on a day.
use Rattle.std.specs.Prelude.{ℕ, ◌-◌, List, [], ◌∷◌, length}
use Rattle.ih_tables.specs.declared.drafts.Draft.{Draft}
use Rattle.ih_plan.specs.Costs.{genders_differ, capacity_of, age_spread}
use Rattle.ih_plan.specs.BillOf.{Counts}
use Rattle.ih_plan.specs.Sums.{bit}
use Rattle.ih_roomdays.specs.declared.bills.RoomDayCounts.{RoomDayCounts}

-- whether genders are mixed, persons above the capacity, and the spread of ages
abbrev pub room_day_part : RoomDayCounts → Counts
room_day_part c = record {
  v = bit c.mixed ∷ 0 ∷ 0 ∷ 0 ∷ 0 ∷ 0 ∷ c.over ∷ 0 ∷ 0 ∷ [];
  s = c.spread ∷ 0 ∷ 0 ∷ 0 ∷ 0 ∷ 0 ∷ 0 ∷ 0 ∷ [];
}

-- these numbers of the persons xs in room r
abbrev pub room_counts : Draft → ℕ → List ℕ → RoomDayCounts
room_counts I r xs = record {
  mixed = genders_differ I xs;
  over = length xs - capacity_of I r;
  spread = age_spread I xs;
}
