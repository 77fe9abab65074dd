-- A delta number by number: what is the same with the placement as without it, and how large a delta is.
use Rattle.std.proofs.Common.{◌≡◌, ℕ, ◌<◌, ◌^◌, refl, arith, subst, [], ◌∷◌, Some, None}
use Rattle.std.specs.Prelude.{pos, ◌-ℤ◌}
use Rattle.std.proofs.lemmas.Int.{ints}
use Rattle.ih_tables.specs.declared.drafts.Draft.{Draft}
use Rattle.ih_tables.specs.declared.ids.PatientNo.{PatientNo}
use Rattle.ih_tables.specs.declared.bills.Bill.{Bill}
use Rattle.ih_tables.specs.Sizes.{patient_count}
use Rattle.ih_tables.specs.Bills.{IsWithin}
use Rattle.ih_tables.specs.Valid.{IsValid}
use Rattle.ih_plan.specs.declared.moves.Placement.{Placement}
use Rattle.ih_plan.specs.declared.moves.Write.TheVariants.{SetStay}
use Rattle.ih_plan.specs.Timetable.{Timetable, IsPlanOf, IsPlacement}
use Rattle.ih_plan.specs.Writes.{put, IsWriteOf}
use Rattle.ih_plan.specs.Costs.{surgeon_of}
use Rattle.ih_plan.specs.Cells.{part_of, content_of}
use Rattle.ih_plan.specs.BillOf.{rule_count, cost_count}
use Rattle.ih_plan.proofs.BillBounds.{change-within}
use Rattle.ih_plan.proofs.PlanRanges.{put-plan}
use Rattle.ih_tables.specs.BillNumbers.{mixed_gender, incompatible_room, surgeon_overrun, theatre_overrun, unscheduled_mandatory, admission_window, room_capacity, nurse_presence, uncovered_room}
use Rattle.ih_tables.specs.BillNumbers.{mixed_age, nurse_skill, continuity_of_care, excess_workload, open_theatre, surgeon_transfer, patient_delay, unscheduled_optional}
use Rattle.ih_costs.specs.StayDelta.{of_stay, of_care, over_days, of_theatre, of_surgeon, over_shifts, over_loads, delta_of, placement_delta}
use Rattle.ih_costs.proofs.DeltaBills.{placement-law}
use Rattle.ih_nurses.specs.Deltas.{increase_by_placement as increase}

no-increase : (a : ℕ) → pos a -ℤ pos a ≡ pos 0
no-increase a = omega (arith, ints)

module _ (I : Draft) (P : Timetable) (p : PatientNo) (at : Placement) where
  -- by how much each number increases with the placement
  abbrev pub numbers : Bill
  numbers = record {
    v = increase P p at (λ Q. over_days I Q p.0 at (rule_count mixed_gender))
        ∷ increase P p at (λ Q. of_stay I Q p.0 at (rule_count incompatible_room))
        ∷ increase P p at (λ Q. of_surgeon I Q p.0 at (rule_count surgeon_overrun) (surgeon_of I p.0))
        ∷ increase P p at (λ Q. of_theatre I Q p.0 at (rule_count theatre_overrun))
        ∷ increase P p at (λ Q. of_stay I Q p.0 at (rule_count unscheduled_mandatory))
        ∷ increase P p at (λ Q. of_stay I Q p.0 at (rule_count admission_window))
        ∷ increase P p at (λ Q. over_days I Q p.0 at (rule_count room_capacity))
        ∷ increase P p at (λ Q. over_shifts I Q p.0 at (rule_count nurse_presence))
        ∷ increase P p at (λ Q. over_shifts I Q p.0 at (rule_count uncovered_room))
        ∷ [];
    s = increase P p at (λ Q. over_days I Q p.0 at (cost_count mixed_age))
        ∷ increase P p at (λ Q. over_shifts I Q p.0 at (cost_count nurse_skill))
        ∷ increase P p at (λ Q. of_care I Q p.0 at (cost_count continuity_of_care))
        ∷ increase P p at (λ Q. over_loads I Q p.0 at (cost_count excess_workload))
        ∷ increase P p at (λ Q. of_theatre I Q p.0 at (cost_count open_theatre))
        ∷ increase P p at (λ Q. of_surgeon I Q p.0 at (cost_count surgeon_transfer) (surgeon_of I p.0))
        ∷ increase P p at (λ Q. of_stay I Q p.0 at (cost_count patient_delay))
        ∷ increase P p at (λ Q. of_stay I Q p.0 at (cost_count unscheduled_optional))
        ∷ [];
  }

  pub each-told : placement_delta I P p at ≡ numbers
  unfolding delta_of
  each-told = refl

  -- whether a room's nurses work their shifts
  pub off-same : increase P p at (λ Q. over_shifts I Q p.0 at (rule_count nurse_presence)) ≡ pos 0
  unfolding part_of content_of
  off-same = no-increase (over_shifts I (put (SetStay p (Some at)) P) p.0 at (rule_count nurse_presence))

  pub delta-within : IsValid I → IsPlanOf I P → p.0 < patient_count I → IsPlacement I at → IsWithin (10 ^ 11) (placement_delta I P p at)
  delta-within valid plan known fits =
      let without : Timetable = put (SetStay p None) P in
      let with : Timetable = put (SetStay p (Some at)) P in
      let out : IsWriteOf I (SetStay p None) = (known, λ at e. absurd (let no : None ≡ Some at = e in cc)) in
      let in_place : IsWriteOf I (SetStay p (Some at)) = (known, λ new e. subst (IsPlacement I) (some-same at new e) fits) in
      subst (IsWithin (10 ^ 11)) (placement-law I P p at valid plan known fits)
      (change-within I without with valid (put-plan I P (SetStay p None) plan out) (put-plan I P (SetStay p (Some at)) plan in_place))
    where
      some-same : (a b : Placement) → Some a ≡ Some b → a ≡ b
      some-same a b e = cc
