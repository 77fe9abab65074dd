-- What is said of a handover: who is new, who has gone, what isn't kept and why, who should be an occupant, and counts.
use Rattle.std.specs.Prelude.{ℕ, ◌+◌, ◌==◌, ◌&&◌, nat_lt, not, Bool, false, List, [], ◌++◌, codes, decimal, Option, Some, None, if◌then◌else◌, is_none, is_some}
use Rattle.std.specs.Option.{option_map_or}
use Rattle.ih_tables.specs.Sizes.{nurse_count, patient_count, person_count, room_count, shift_count}
use Rattle.ih_plan.specs.declared.moves.Placement.{Placement}
use Rattle.ih_plan.specs.Costs.{is_number}
use Rattle.ih_plan.specs.Persons.{person_of}
use Rattle.ih_plan.specs.Sums.{bit, count_below, sum_below}
use Rattle.ih_plan.specs.Timetable.{care_of, stay_of}
use Rattle.ih_solution.specs.Solution.{nurse_id, patient_id}
use Rattle.ih_validate.specs.Report.{lines_below}
use Rattle.ih_carry.specs.declared.losses.Loss.{Loss}
use Rattle.ih_carry.specs.declared.losses.Loss.TheVariants.{Past, RoomGone, NurseGone, OffDuty}
use Rattle.ih_carry.specs.declared.accounts.Totals.{Totals}
use Rattle.ih_carry.specs.declared.parts.Part.{Part}
use Rattle.ih_carry.specs.declared.parts.Part.TheVariants.{New, Gone, Dropped, Lost, Lying}
use Rattle.ih_carry.specs.Handovers.{HandoverData, handed, kept_nurse, kept_stay, lost_stay}
use Rattle.ih_carry.specs.Ids.{is_occupant, patient_with, person_id}
use Rattle.ih_carry.specs.Losses.{is_lost_by, loss_text}

-- ---- who and what is said

-- the ward has no patient with the id of patient q of the next one
abbrev pub is_new : HandoverData → ℕ → Bool
is_new h q = is_none (patient_with h.ward (patient_id h.next q))

-- the next ward has neither a patient nor an occupant with the id of patient p of the ward
abbrev pub has_gone : HandoverData → ℕ → Bool
has_gone h p = is_none (patient_with h.next (patient_id h.ward p)) && not (is_occupant h.next (patient_id h.ward p))

-- nurse m of the ward has room s in shift k, and loses it for this reason
abbrev pub is_lost : HandoverData → ℕ → Loss → ℕ → ℕ → Bool
is_lost h m loss s k = is_number (care_of h.plan s k) m && is_lost_by loss (handed h s k m)

-- how many rooms and shifts the nurse loses so in room s
unfoldable pub lost_in : HandoverData → ℕ → Loss → ℕ → ℕ
lost_in h m loss s = count_below (shift_count h.ward) (is_lost h m loss s)

-- how many in all rooms
unfoldable pub lost : HandoverData → ℕ → Loss → ℕ
lost h m loss = sum_below (room_count h.ward) (lost_in h m loss)

-- a stay of so many days was begun before the day of the handover, and has that day
abbrev pub is_lying : HandoverData → Option Placement → ℕ → Bool
is_lying h None len = false
is_lying h (Some at) len = nat_lt at.day.0 h.days && nat_lt h.days (at.day.0 + len)

-- person x of the ward came before the day of the handover and is there on it; an occupant came before day 0
abbrev pub is_there : HandoverData → ℕ → Bool
is_there h x =
    if nat_lt x (patient_count h.ward)
    then is_lying h (stay_of h.plan x) (person_of h.ward x).length_of_stay
    else nat_lt h.days (person_of h.ward x).length_of_stay

-- and the next ward has no occupant with this id
abbrev pub is_no_occupant : HandoverData → ℕ → Bool
is_no_occupant h x = is_there h x && not (is_occupant h.next (person_id h.ward x))

-- ---- part by part

-- the patients or persons of whom a part may say something, or the nurses
abbrev pub part_size : HandoverData → Part → ℕ
part_size h New = patient_count h.next
part_size h Gone = patient_count h.ward
part_size h Dropped = patient_count h.next
part_size h (Lost loss) = nurse_count h.ward
part_size h Lying = person_count h.ward

-- how much there is to say of number i of these: of a nurse how many rooms and shifts
abbrev pub part_number : HandoverData → Part → ℕ → ℕ
part_number h New q = bit (is_new h q)
part_number h Gone p = bit (has_gone h p)
part_number h Dropped q = bit (is_some (lost_stay h q))
part_number h (Lost loss) m = lost h m loss
part_number h Lying x = bit (is_no_occupant h x)

-- how it is said
abbrev pub said_of : HandoverData → Part → ℕ → ℕ → List ℕ
said_of h New q n = codes "new: " ++ (patient_id h.next q ++ codes "\n")
said_of h Gone p n = codes "gone: " ++ (patient_id h.ward p ++ codes "\n")
said_of h Dropped q n =
    codes "dropped: " ++ (patient_id h.next q ++ (codes ", " ++ (option_map_or loss_text (lost_stay h q) [] ++ codes "\n")))
said_of h (Lost loss) m n =
    codes "nurse " ++ (nurse_id h.ward m ++ (codes ": " ++ (decimal n ++ (codes " dropped, " ++ (loss_text loss ++ codes "\n")))))
said_of h Lying x n = codes "no occupant: " ++ (person_id h.ward x ++ codes "\n")

-- a line, where there is something to say
abbrev pub line_if : HandoverData → Part → ℕ → ℕ → List ℕ
line_if h part i n = if n == 0 then [] else said_of h part i n

abbrev pub line_of : HandoverData → Part → ℕ → List ℕ
line_of h part i = line_if h part i (part_number h part i)

-- the lines of a part
unfoldable pub part_text : HandoverData → Part → List ℕ
part_text h part = lines_below (part_size h part) (line_of h part)

-- how much they say in all
unfoldable pub part_total : HandoverData → Part → ℕ
part_total h part = sum_below (part_size h part) (part_number h part)

-- ---- all of it

-- what nurses lose from the day of the handover on
unfoldable pub losses_text : HandoverData → List ℕ
losses_text h =
    part_text h (Lost Past) ++ (part_text h (Lost RoomGone) ++ (part_text h (Lost NurseGone) ++ part_text h (Lost OffDuty)))

unfoldable pub losses_total : HandoverData → ℕ
losses_total h =
    part_total h (Lost Past) + part_total h (Lost RoomGone) + part_total h (Lost NurseGone) + part_total h (Lost OffDuty)

-- the patients who keep their stays
unfoldable pub kept_stays : HandoverData → ℕ
kept_stays h = count_below (patient_count h.next) (λ q. is_some (kept_stay h q))

-- the shifts in which room r keeps its nurse
unfoldable pub kept_in : HandoverData → ℕ → ℕ
kept_in h r = count_below (shift_count h.next) (λ k. is_some (kept_nurse h r k))

-- the rooms and shifts that keep their nurse
unfoldable pub kept_nurses : HandoverData → ℕ
kept_nurses h = sum_below (room_count h.next) (kept_in h)

-- the last line: what is kept and what isn't, and who is new, has gone or should be an occupant
abbrev pub choices_text : ℕ → ℕ → Totals → List ℕ
choices_text kept nurses t =
    (decimal kept ++ codes " stays and ") ++ ((decimal nurses ++ codes " nurses' shifts kept, ")
    ++ ((decimal t.dropped ++ codes " and ") ++ (decimal t.lost ++ codes " dropped; ")))

abbrev pub persons_text : Totals → List ℕ
persons_text t =
    (decimal t.arrived ++ codes " new, ") ++ ((decimal t.gone ++ codes " gone, ")
    ++ (decimal t.lying ++ codes " no occupants\n"))

-- how much they say
abbrev pub totals : HandoverData → Totals
totals h = record {
  arrived = part_total h New;
  gone = part_total h Gone;
  dropped = part_total h Dropped;
  lost = losses_total h;
  lying = part_total h Lying;
}

unfoldable pub account : HandoverData → List ℕ
account h =
    part_text h New ++ (part_text h Gone ++ (part_text h Dropped ++ (losses_text h ++ (part_text h Lying
    ++ (choices_text (kept_stays h) (kept_nurses h) (totals h) ++ persons_text (totals h))))))
