-- The law of handovers: what isn't kept is said.
use Rattle.std.specs.Prelude.{◌≡◌, ℕ, ◌+◌, ◌*◌, ◌<◌, ◌-◌, ◌⊎◌, true, Some, Ok}
use Rattle.ih_tables.specs.Sizes.{room_count, shift_count}
use Rattle.ih_tables.specs.declared.ids.NurseNo.{NurseNo}
use Rattle.ih_plan.specs.declared.moves.Placement.{Placement}
use Rattle.ih_plan.specs.Timetable.{choice_of}
use Rattle.ih_carry.specs.declared.losses.Loss.{Loss}
use Rattle.ih_carry.specs.Account.{is_lost}
use Rattle.ih_carry.specs.Handovers.{HandoverData, handed, kept_nurse, kept_stay, known_stay, lost_stay}
use Rattle.ih_carry.specs.Ids.{room_with}
use Rattle.ih_solution.specs.Solution.{room_id}

-- the room with the id of room s keeps the nurse, as many days earlier
pub record IsKept (h : HandoverData) (s k : ℕ) (n : NurseNo) : Type 0 where
  pub room : ℕ
  pub named : room_with h.next (room_id h.ward s) ≡ Some (record { 0 = room })
  pub later : k ≡ (k - 3 * h.days) + 3 * h.days
  pub within : k - 3 * h.days < shift_count h.next
  pub kept : kept_nurse h room (k - 3 * h.days) ≡ Some n

-- A stay of a patient whom both wards know is kept, or there is a reason, which is said. So it is of a nurse in each room
-- and shift of the ward.
pub record NothingIsLostUnsaid (h : HandoverData) : Type 0 where
  pub stays : (q : ℕ) (at : Placement) → known_stay h q ≡ Some at
      → ((new : Placement) × (kept_stay h q ≡ Some new)) ⊎ ((why : Loss) × (lost_stay h q ≡ Some why))
  pub nurses : (s k : ℕ) (m : NurseNo) → s < room_count h.ward → k < shift_count h.ward → choice_of h.plan s k ≡ Some m
      → ((n : NurseNo) × IsKept h s k n) ⊎ ((why : Loss) × (is_lost h m.0 why s k ≡ true))
