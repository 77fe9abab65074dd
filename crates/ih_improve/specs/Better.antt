-- Which of two timetables is better.
use Rattle.std.specs.Prelude.{ℕ, ◌*◌, ℤ, pos, ◌+ℤ◌, ◌==◌, nat_lt, Bool, true, false, not, ◌&&◌, ◌||◌, int_lt, List, fold, if◌then◌else◌}
use Rattle.ih_tables.specs.declared.bills.Bill.{Bill}
use Rattle.ih_tables.specs.declared.bills.Weights.{Weights}
use Rattle.ih_tables.specs.Bills.{cost, feasible, score}
use Rattle.ih_plan.specs.Timetable.{Timetable}
use Rattle.ih_plan.specs.BillOf.{bill_of}
use Rattle.ih_changes.specs.Changes.{changes}
use Rattle.ih_improve.specs.Terms.{Terms}
use Rattle.ih_improve.specs.declared.comparing.Standing.{Standing}

-- x with m points is less than y with n points: by their sums, and where these are equal, by the points
abbrev pub is_less : ℤ → ℕ → ℤ → ℕ → Bool
is_less x m y n =
    int_lt (x +ℤ pos m) (y +ℤ pos n) || (not (int_lt (y +ℤ pos n) (x +ℤ pos m)) && nat_lt m n)

-- What stands at a is better than what stands at b, where each change weighs `keep` points. A feasible one is better than
-- one that isn't. Two feasible ones go by their costs with the points of their changes, two others by their scores alone.
abbrev pub is_better : (hard keep : ℕ) → Weights → Standing → Standing → Bool
is_better hard keep w a b =
    if feasible a.bill
    then (if feasible b.bill then is_less (cost w a.bill) (keep * a.changes) (cost w b.bill) (keep * b.changes)
    else true)
    else (if feasible b.bill then false else int_lt (score hard w a.bill) (score hard w b.bill))

-- what a bill is judged by where changes don't count
abbrev pub of_bill : Bill → Standing
of_bill b = record { bill = b; changes = 0 }

-- how many changes against the start count: none where they weigh nothing
abbrev pub counted_changes : Terms → Timetable → ℕ
counted_changes t P = if t.settings.keep == 0 then 0 else changes t.instance t.start P

-- what a timetable is judged by
abbrev pub standing_of : Terms → Timetable → Standing
standing_of t P = record { bill = bill_of t.instance P; changes = counted_changes t P }

-- the first timetable is better than the second
abbrev pub is_better_than : Terms → Timetable → Timetable → Bool
is_better_than t P Q =
    is_better t.settings.hard t.settings.keep t.instance.weights (standing_of t P) (standing_of t Q)

-- the better of two timetables, the first on a tie
unfoldable pub better_of : Terms → Timetable → Timetable → Timetable
better_of t P Q = if is_better_than t Q P then Q else P

-- the best of a timetable and those of a list, the first on a tie
abbrev pub best_of : Terms → Timetable → List Timetable → Timetable
best_of t P Qs = fold (better_of t) P Qs
