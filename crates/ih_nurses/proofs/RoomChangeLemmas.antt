-- The persons that a room's list has in a shift, and what a choice of nurse costs there.
use Rattle.std.proofs.Common.{◌≡◌, ℕ, ◌<◌, refl, arith, sym, ap, subst, ◌∙◌, Bool, List, map, Option}
use Rattle.std.specs.Prelude.{◌&&◌, not, is_none, slice_index_or}
use Rattle.ih_tables.specs.declared.drafts.Draft.{Draft}
use Rattle.ih_tables.specs.declared.ids.RoomNo.{RoomNo}
use Rattle.ih_tables.specs.declared.ids.Shift.{Shift}
use Rattle.ih_tables.specs.declared.cells.Cell.TheVariants.{RoomShift}
use Rattle.ih_tables.specs.Sizes.{person_count, room_count, shift_count}
use Rattle.ih_links.specs.Lists.{LinksState, list_of, AreNodes, without}
use Rattle.ih_links.specs.Days.{on_day}
use Rattle.ih_plan.specs.Timetable.{Timetable, care_of}
use Rattle.ih_plan.specs.Presence.{present, day_of, skill_of}
use Rattle.ih_plan.specs.Costs.{not_working, is_empty, skill_missing}
use Rattle.ih_plan.specs.BillOf.{as_bill}
use Rattle.ih_plan.specs.Cells.{part_at}
use Rattle.ih_plan.specs.Sums.{bit}
use Rattle.ih_nurses.specs.declared.bills.NursingCosts.{NursingCosts}
use Rattle.ih_nurses.specs.Here.{AreHere}
use Rattle.ih_nurses.proofs.DifferenceLemmas.{bill_in}
use Rattle.ih_nurses.proofs.HereLemmas.{read-here}
use Rattle.ih_nurses.proofs.OwnLemmas.{others-alike}
use Rattle.ih_nurses.proofs.RoomLemmas.{AreAlike, room_list-part}
use Rattle.ih_nurses.proofs.ShiftLemmas.{sum-in_list}

-- These are the costs of nurse n in room r and shift k, with the persons in a list.
pub record AreChoiceCosts (I : Draft) (P : Timetable) (xs : List ℕ) (k : ℕ) (n : Option ℕ) (a : NursingCosts) : Type 0 where
  pub off : a.off ≡ bit (not_working I k n)
  pub uncovered : a.uncovered ≡ bit (is_none n && not (is_empty xs))
  pub missing_skill : a.missing_skill ≡ skill_missing I n (map (skill_of I P k) xs)
  pub seen : a.nurses_seen ≡ 0
  pub overload : a.overload ≡ 0

-- others than patient p are in room r in shift k
abbrev pub has_others : Draft → Timetable → ℕ → ℕ → ℕ → Bool
has_others I P p r k = not (is_empty (without p (present I P r (day_of k))))

-- the list of a room and a day that the ledger keeps
pub record IsRoomList (I : Draft) (P : Timetable) (here : List LinksState) (day : LinksState) (r k : ℕ) : Type 0 where
  pub known : AreHere I P here
  pub room : r < room_count I
  pub shift : k < shift_count I
  pub day_is : day ≡ slice_index_or here (day_of k) day
  pub nodes : AreNodes day.nodes (list_of day r)

-- the lists of a day are over the persons
module _ (I : Draft) (P : Timetable) (here : List LinksState) (day : LinksState) (k : ℕ) (known : AreHere I P here) (shift : k < shift_count I) (day_is : day ≡ slice_index_or here (day_of k) day) where
  read : on_day here (day_of k) ≡ day
  read = let days = known.sized.days in read-here here (day_of k) day day day (omega (arith, days, shift)) day_is

  pub day-persons : day.nodes ≡ person_count I
  day-persons = ap (λ (d : LinksState). d.nodes) (sym read) ∙ known.sized.persons (day_of k) (omega (arith, shift))

pub list-alike : (I : Draft) (P : Timetable) (here : List LinksState) (day : LinksState) (r k : ℕ) → IsRoomList I P here day r k → AreAlike (list_of day r) (present I P r (day_of k))
list-alike I P here day r k l =
    λ f. sum-in_list I P here day r k f l.known l.room l.shift l.day_is
    (subst (λ m. AreNodes m (list_of day r)) (day-persons I P here day k l.known l.shift l.day_is) l.nodes)

pub choice-part : (I : Draft) (P : Timetable) (here : List LinksState) (day : LinksState) (r : RoomNo) (k : Shift) (a : NursingCosts) → IsRoomList I P here day r.0 k.0
    → AreChoiceCosts I P (list_of day r.0) k.0 (care_of P r.0 k.0) a → bill_in a ≡ as_bill (part_at I P (RoomShift r k))
choice-part I P here day r k a l costs =
    rw (costs.seen, costs.overload)
    (room_list-part I P here day r k (care_of P r.0 k.0) a.off a.uncovered a.missing_skill l.known l.room l.shift l.day_is l.nodes refl costs.off costs.uncovered costs.missing_skill)

-- the others in the list of a room and a day are those of the timetable
pub others-in : {I : Draft} {P : Timetable} {here : List LinksState} {day : LinksState} {r k : ℕ} (p : ℕ) → IsRoomList I P here day r k → not (is_empty (without p (list_of day r))) ≡ has_others I P p r k
others-in {I} {P} {here} {day} {r} {k} p l = others-alike p (list_of day r) (present I P r (day_of k)) (list-alike I P here day r k l)
