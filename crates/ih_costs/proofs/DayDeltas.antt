-- What a loop over the days or shifts of a placement has added up.
use Rattle.std.proofs.Common.{◌≡◌, ℕ, ◌+◌, ◌*◌, ◌^◌, ◌<◌, ◌≤◌, refl, arith, ap, ◌∙◌, Option, Some, None, w64, FitsSigned, to_z}
use Rattle.std.specs.Prelude.{ℤ, pos, ◌+ℤ◌, ◌-ℤ◌}
use Rattle.ih_tables.specs.declared.drafts.Draft.{Draft}
use Rattle.ih_tables.specs.declared.ids.PatientNo.{PatientNo}
use Rattle.ih_tables.specs.declared.ids.Shift.{Shift}
use Rattle.ih_tables.specs.declared.bills.Bill.{Bill}
use Rattle.ih_tables.specs.Bills.{at as place, sub_bills, IsWithin}
use Rattle.ih_plan.specs.declared.moves.Placement.{Placement}
use Rattle.ih_plan.specs.declared.moves.Write.TheVariants.{SetStay}
use Rattle.ih_plan.specs.Timetable.{Timetable, care_of}
use Rattle.ih_plan.specs.Writes.{put}
use Rattle.ih_plan.specs.BillOf.{Counts, as_bill, rule_count, cost_count}
use Rattle.ih_plan.specs.Cells.{part_at}
use Rattle.ih_plan.proofs.CellNumbers.{room_day_cell, room_shift_cell}
use Rattle.ih_nurses.specs.Choice.{excess_of}
use Rattle.ih_nurses.specs.Deltas.{excess_in, increase_by_placement}
use Rattle.ih_tables.specs.BillNumbers.{mixed_gender, room_capacity, uncovered_room, mixed_age, nurse_skill, excess_workload}
use Rattle.ih_costs.specs.StayDelta.{of_nurse}
use Rattle.ih_costs.proofs.DeltaSteps.{IsIncreased, handed, rule-less, cost-less, step-increased, step-fits, count-increased, count-fits}

module _ (I : Draft) (P : Timetable) (p : PatientNo) (at : Placement) where
  abbrev pub placed : Timetable
  placed = put (SetStay p (Some at)) P

  abbrev pub without : Timetable
  without = put (SetStay p None) P

  -- a room's day, or its shift, at a timetable
  abbrev pub on_day : Timetable → ℕ → Counts
  on_day Q d = part_at I Q (room_day_cell at.room.0 d)

  abbrev pub in_shift : Timetable → ℕ → Counts
  in_shift Q k = part_at I Q (room_shift_cell at.room.0 k)

  -- the excess workload of the room's nurse in a shift
  abbrev pub excess : Timetable → ℕ → ℕ
  excess Q k = of_nurse I Q p.0 at (cost_count excess_workload) k (care_of Q at.room.0 k)

  excess-is : (Q : Timetable) (k : ℕ) (n : Option ℕ) → excess_of I Q k n ≡ of_nurse I Q p.0 at (cost_count excess_workload) k n
  excess-is Q k None = refl
  excess-is Q k (Some n) = refl

  pub excess-increases : (k : Shift) (z : ℤ) → z ≡ increase_by_placement P p at (λ Q. excess_in I Q at.room k) → z ≡ pos (excess placed k.0) -ℤ pos (excess without k.0)
  excess-increases k z e =
      e
      ∙ (ap (λ m. pos m -ℤ pos (excess_in I without at.room k)) (excess-is placed k.0 (care_of placed at.room.0 k.0))
      ∙ ap (λ m. pos (excess placed k.0) -ℤ pos m) (excess-is without k.0 (care_of without at.room.0 k.0)))

  -- the days before d, with the placement less without
  pub record AreDaysTold (d : ℕ) (m c a : ℤ) : Type 0 where
    pub mixed : IsIncreased at.day.0 d (λ i. rule_count mixed_gender (on_day placed i)) (λ i. rule_count mixed_gender (on_day without i)) m
    pub crowded : IsIncreased at.day.0 d (λ i. rule_count room_capacity (on_day placed i)) (λ i. rule_count room_capacity (on_day without i)) c
    pub ages : IsIncreased at.day.0 d (λ i. cost_count mixed_age (on_day placed i)) (λ i. cost_count mixed_age (on_day without i)) a

  -- the shifts before k, with the placement less without
  pub record AreShiftsTold (k : ℕ) (a s l : ℤ) : Type 0 where
    pub uncovered : IsIncreased (3 * at.day.0) k (λ i. rule_count uncovered_room (in_shift placed i)) (λ i. rule_count uncovered_room (in_shift without i)) a
    pub missing_skill : IsIncreased (3 * at.day.0) k (λ i. cost_count nurse_skill (in_shift placed i)) (λ i. cost_count nurse_skill (in_shift without i)) s
    pub overload : IsIncreased (3 * at.day.0) k (λ i. excess placed i) (λ i. excess without i) l

  -- one day more, told as a bill
  module _ (d : ℕ) (m c a : ℤ) (told : AreDaysTold d m c a) (bill : Bill) (next : bill ≡ sub_bills (as_bill (on_day placed d)) (as_bill (on_day without d)))
      (small : IsWithin (10 ^ 11) bill) (few : d ≤ 200) where
    pub mixed-fits : FitsSigned w64 (m +ℤ handed (place bill.v mixed_gender))
    mixed-fits = step-fits _ _ _ _ _ _ told.mixed few (small.v mixed_gender (omega arith))

    pub crowded-fits : FitsSigned w64 (c +ℤ handed (place bill.v room_capacity))
    crowded-fits = step-fits _ _ _ _ _ _ told.crowded few (small.v room_capacity (omega arith))

    pub ages-fit : FitsSigned w64 (a +ℤ handed (place bill.s mixed_age))
    ages-fit = step-fits _ _ _ _ _ _ told.ages few (small.s mixed_age (omega arith))

    rule-next : (k : ℕ) → k < 9 → place bill.v k ≡ pos (rule_count k (on_day placed d)) -ℤ pos (rule_count k (on_day without d))
    rule-next k h = ap (λ b. place b.v k) next ∙ rule-less (on_day placed d) (on_day without d) k h

    cost-next : (k : ℕ) → k < 8 → place bill.s k ≡ pos (cost_count k (on_day placed d)) -ℤ pos (cost_count k (on_day without d))
    cost-next k h = ap (λ b. place b.s k) next ∙ cost-less (on_day placed d) (on_day without d) k h

    pub days-more : at.day.0 ≤ d → AreDaysTold (d + 1) (handed (m +ℤ handed (place bill.v mixed_gender)))
        (handed (c +ℤ handed (place bill.v room_capacity))) (handed (a +ℤ handed (place bill.s mixed_age)))
    days-more begun = record {
      mixed = step-increased _ _ _ _ _ _ told.mixed few (small.v mixed_gender (omega arith)) begun (rule-next mixed_gender (omega arith));
      crowded = step-increased _ _ _ _ _ _ told.crowded few (small.v room_capacity (omega arith)) begun (rule-next room_capacity (omega arith));
      ages = step-increased _ _ _ _ _ _ told.ages few (small.s mixed_age (omega arith)) begun (cost-next mixed_age (omega arith));
    }

  -- one shift more, told as three numbers
  module _ (k : ℕ) (a s l : ℤ) (told : AreShiftsTold k a s l) (few : k ≤ 200) where
    abbrev alone_in : Timetable → ℕ → ℕ
    alone_in Q i = rule_count uncovered_room (in_shift Q i)

    abbrev skill_in : Timetable → ℕ → ℕ
    skill_in Q i = cost_count nurse_skill (in_shift Q i)

    pub uncovered-fits : (n : ℕ) → n < 2 ^ 32 → FitsSigned w64 (a +ℤ to_z w64 n)
    uncovered-fits n small = count-fits (3 * at.day.0) k (alone_in placed) (alone_in without) a n told.uncovered few small

    pub missing_skill-fits : (n : ℕ) → n < 2 ^ 32 → FitsSigned w64 (s +ℤ to_z w64 n)
    missing_skill-fits n small = count-fits (3 * at.day.0) k (skill_in placed) (skill_in without) s n told.missing_skill few small

    pub overload-fits : (n : ℕ) → n < 2 ^ 32 → FitsSigned w64 (l +ℤ to_z w64 n)
    overload-fits n small = count-fits (3 * at.day.0) k (excess placed) (excess without) l n told.overload few small

    pub shifts-more : 3 * at.day.0 ≤ k → (alone skill load : ℕ) → alone < 2 ^ 32 → skill < 2 ^ 32 → load < 2 ^ 32
        → pos alone ≡ pos (alone_in placed k) -ℤ pos (alone_in without k)
        → pos skill ≡ pos (skill_in placed k) -ℤ pos (skill_in without k)
        → pos load ≡ increase_by_placement P p at (λ Q. excess_in I Q at.room (record { 0 = k }))
        → AreShiftsTold (k + 1) (handed (a +ℤ to_z w64 alone)) (handed (s +ℤ to_z w64 skill)) (handed (l +ℤ to_z w64 load))
    shifts-more begun alone skill load a_small s_small l_small a_is s_is l_is = record {
      uncovered = count-increased (3 * at.day.0) k (alone_in placed) (alone_in without) a alone told.uncovered few a_small begun a_is;
      missing_skill = count-increased (3 * at.day.0) k (skill_in placed) (skill_in without) s skill told.missing_skill few s_small begun s_is;
      overload = count-increased (3 * at.day.0) k (excess placed) (excess without) l load told.overload few l_small begun (excess-increases (record { 0 = k }) (pos load) l_is);
    }
