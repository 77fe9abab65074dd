-- The greedy first timetable: patients, then nurses, each by the least change of the bill.
use Rattle.std.specs.Prelude.{ℕ, ◌&&◌, not, Bool, true, false, ℤ, pos, List, [], ◌∷◌, ◌++◌, take, if◌then◌else◌, is_none, slice_get}
use Rattle.std.specs.Option.{option_map_or}
use Rattle.ih_tables.specs.declared.drafts.Draft.{Draft}
use Rattle.ih_tables.specs.declared.drafts.Patient.{Patient}
use Rattle.ih_tables.specs.declared.bills.Bill.{Bill}
use Rattle.ih_tables.specs.Sizes.{patient_count}
use Rattle.ih_tables.specs.BillNumbers.{uncovered_room}
use Rattle.ih_tables.specs.Bills.{score}
use Rattle.ih_plan.specs.declared.moves.Write.{Write}
use Rattle.ih_plan.specs.Timetable.{Timetable, stay_of, care_of}
use Rattle.ih_plan.specs.Writes.{put}
use Rattle.ih_plan.specs.Presence.{day_of, present}
use Rattle.ih_plan.specs.Costs.{is_empty}
use Rattle.ih_plan.specs.BillOf.{change_of_bill}
use Rattle.ih_plan.specs.Sums.{which_below}
use Rattle.ih_fill.specs.declared.choices.Choice.{Choice}
use Rattle.ih_fill.specs.declared.choices.Choice.TheVariants.{Nurse, Stay}
use Rattle.ih_fill.specs.Candidates.{least_of, put_candidate}
use Rattle.ih_fill.specs.Choices.{candidates, nurse_choices, stay_choices}

-- the bill with no broken rule on uncovered rooms
abbrev pub without_uncovered : Bill → Bill
without_uncovered b = record b { v = take uncovered_room b.v ++ pos 0 ∷ [] }

-- the score of what a write changes in the bill, as `view` shows it
abbrev pub write_score : Draft → ℕ → (Bill → Bill) → Timetable → Write → ℤ
write_score I hard view P w = score hard I.weights (view (change_of_bill I P (put w P)))

-- the bill as a choice sees it: uncovered rooms don't count where a stay is chosen
abbrev pub view_in : Choice → Bill → Bill
view_in (Stay p) = without_uncovered
view_in (Nurse r k) = λ b. b

-- the choice is open: that of a stay always, that of a nurse where the room has persons and no nurse
abbrev pub is_open : Draft → Timetable → Choice → Bool
is_open I P (Stay p) = true
is_open I P (Nurse r k) = is_none (care_of P r.0 k.0) && not (is_empty (present I P r.0 (day_of k.0)))

-- after one choice: where it is open, with the cheapest of its candidates, if there is any
unfoldable pub with_choice : Draft → ℕ → Timetable → Choice → Timetable
with_choice I hard P c =
    if is_open I P c
    then put_candidate (least_of (write_score I hard (view_in c) P) (candidates I c)) P
    else P

-- each of the choices in turn
abbrev pub with_choices : Draft → ℕ → Timetable → List Choice → Timetable
with_choices I hard P [] = P
with_choices I hard P (c ∷ cs) = with_choices I hard (with_choice I hard P c) cs

-- patient p isn't admitted, and is of the mandatory ones or of the optional ones
abbrev pub is_waiting : Draft → Timetable → Bool → ℕ → Bool
is_waiting I P mandatory p =
    is_none (stay_of P p)
    && option_map_or (λ (a : Patient). if mandatory then a.mandatory else not a.mandatory)
    (slice_get I.patients p) false

-- the mandatory patients who aren't admitted, or the optional ones, rising
abbrev pub waiting : Draft → Timetable → Bool → List ℕ
waiting I P mandatory = which_below (patient_count I) (is_waiting I P mandatory)

-- the choices of a fill: patients first, mandatory ones before optional ones, then the nurses
abbrev pub fill_choices : Draft → Timetable → List Choice
fill_choices I P = stay_choices (waiting I P true) ++ (stay_choices (waiting I P false) ++ nurse_choices I)

-- Each patient who waits gets the cheapest stay or none; then each occupied room and shift without a nurse the cheapest
-- nurse.
unfoldable pub fill : Draft → ℕ → Timetable → Timetable
fill I hard P = with_choices I hard P (fill_choices I P)
