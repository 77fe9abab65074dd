-- A nurse's assignments, written into a timetable room by room.
use Rattle.std.proofs.Common.{◌≡◌, ℕ, ◌+◌, ◌<◌, ◌≤◌, refl, ap, sym, ◌∙◌, add-one, List, ◌∷◌, length, get_or, drop, drop-cons, Some}
use Rattle.std.proofs.lemmas.List.{drop_all}
use Rattle.ih_tables.specs.declared.drafts.Draft.{Draft}
use Rattle.ih_tables.specs.declared.ids.RoomNo.{RoomNo}
use Rattle.ih_tables.specs.declared.ids.NurseNo.{NurseNo}
use Rattle.ih_tables.specs.declared.ids.Shift.{Shift}
use Rattle.ih_tables.specs.Sizes.{room_count, shift_count, nurse_count}
use Rattle.ih_plan.specs.declared.moves.Write.TheVariants.{SetCare}
use Rattle.ih_plan.specs.Timetable.{Timetable, IsPlanOf}
use Rattle.ih_plan.specs.Writes.{put}
use Rattle.ih_plan.proofs.PlanRanges.{care-plan}
use Rattle.ih_solution.specs.Assigned.{with_rooms, with_assignments}
use Rattle.ih_solution.specs.declared.reader.rows.Assignment.{Assignment}

-- the first i rooms are written
pub record HasRooms (I : Draft) (n : NurseNo) (k : Shift) (rooms : List RoomNo) (i : ℕ) (P Q : Timetable) : Type 0 where
  pub plan : IsPlanOf I Q
  pub rest : with_rooms n k (drop i rooms) Q ≡ with_rooms n k rooms P

pub has_rooms-more : {I : Draft} {n : NurseNo} {k : Shift} {rooms : List RoomNo} {i : ℕ} {P Q : Timetable} (d : RoomNo) → HasRooms I n k rooms i P Q
    → i < length rooms → (get_or rooms i d).0 < room_count I → k.0 < shift_count I → n.0 < nurse_count I
    → HasRooms I n k rooms (i + 1) P (put (SetCare (get_or rooms i d) k (Some n)) Q)
has_rooms-more {I} {n} {k} {rooms} {i} {P} {Q} d so_far h rh kh nh = record {
  plan = care-plan I Q (get_or rooms i d) k n so_far.plan rh kh nh;
  rest =
      let next : drop i rooms ≡ get_or rooms i d ∷ drop (i + 1) rooms = drop-cons rooms i d h ∙ (rw add-one refl) in
      sym (ap (λ (rs : List RoomNo). with_rooms n k rs Q) next) ∙ so_far.rest;
}

pub has_rooms-all : {I : Draft} {n : NurseNo} {k : Shift} {rooms : List RoomNo} {i : ℕ} {P Q : Timetable} → HasRooms I n k rooms i P Q → length rooms ≤ i → Q ≡ with_rooms n k rooms P
has_rooms-all {I} {n} {k} {rooms} {i} {P} {Q} so_far h = sym (ap (λ (rs : List RoomNo). with_rooms n k rs Q) (drop_all i rooms h)) ∙ so_far.rest

-- the first i assignments are written
pub record HasAssignments (I : Draft) (n : NurseNo) (given : List Assignment) (i : ℕ) (P Q : Timetable) : Type 0 where
  pub plan : IsPlanOf I Q
  pub rest : with_assignments n (drop i given) Q ≡ with_assignments n given P
