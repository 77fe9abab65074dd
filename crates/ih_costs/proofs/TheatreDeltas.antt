-- Two placements with one room and one day: theatres and surgeons aside, their deltas are the same.
use Rattle.std.proofs.Common.{◌≡◌, ℕ, ◌*◌, ◌<◌, refl, arith, ap, sym, subst, ◌∙◌, inl, inr, [], ◌∷◌, length, Option, Some, None}
use Rattle.std.specs.Prelude.{ℤ, pos, ◌-ℤ◌}
use Rattle.std.proofs.lemmas.Bool.{cases_eq}
use Rattle.std.proofs.lemmas.Int.{ints}
use Rattle.ih_tables.specs.declared.drafts.Draft.{Draft}
use Rattle.ih_tables.specs.declared.ids.PatientNo.{PatientNo}
use Rattle.ih_tables.specs.declared.ids.TheatreNo.{TheatreNo}
use Rattle.ih_tables.specs.declared.bills.Bill.{Bill}
use Rattle.ih_tables.specs.Bills.{at as place, sub_bills}
use Rattle.ih_tables.specs.Sizes.{patient_count, person_count}
use Rattle.ih_plan.specs.declared.moves.Placement.{Placement}
use Rattle.ih_plan.specs.Timetable.{Timetable, IsPlanOf, care_of}
use Rattle.ih_plan.specs.Sums.{tagged}
use Rattle.ih_plan.specs.Presence.{admission_of, is_present, present, day_of, entry_of, shifts_of, end_of}
use Rattle.ih_plan.specs.Costs.{is_number}
use Rattle.ih_plan.specs.BillOf.{Counts, rule_count, cost_count}
use Rattle.ih_plan.specs.Cells.{content_of, part_of, part_at, persons_content, nursing_content, load_content}
use Rattle.ih_plan.proofs.Entries.{stay_of-same, admission-other, admission-set}
use Rattle.ih_plan.proofs.ListedBelow.{which_below-same, tagged-same}
use Rattle.ih_plan.proofs.Loads.{room_load-same, load_of-same, if-same}
use Rattle.ih_plan.proofs.CellNumbers.{stay_cell, room_day_cell, room_shift_cell, nurse_shift_cell, care_cell}
use Rattle.ih_tables.specs.BillNumbers.{mixed_gender, incompatible_room, unscheduled_mandatory, admission_window, room_capacity, nurse_presence, uncovered_room}
use Rattle.ih_tables.specs.BillNumbers.{mixed_age, nurse_skill, continuity_of_care, excess_workload, patient_delay, unscheduled_optional}
use Rattle.ih_costs.specs.StayDelta.{of_stay, of_care, of_nurse, over_days, over_shifts, over_loads, of_surgery, placement_delta}
use Rattle.ih_costs.proofs.DayDeltas.{placed, without}
use Rattle.ih_costs.proofs.DeltaNumbers.{each-told}
use Rattle.ih_costs.proofs.DeltaParts.{bill-same, nine-same, eight-same}
use Rattle.ih_costs.proofs.SpanSums.{span-same}
use Rattle.ih_nurses.specs.Deltas.{increase_by_placement as increase}

-- ---- bills that are the same but for theatres and surgeons

-- the numbers of a bill that rest neither on theatres nor on surgeons, and 0 for each other
abbrev beside_surgery : Bill → Bill
beside_surgery b = record {
  v = place b.v mixed_gender ∷ place b.v incompatible_room ∷ pos 0 ∷ pos 0 ∷ place b.v unscheduled_mandatory
      ∷ place b.v admission_window ∷ place b.v room_capacity ∷ place b.v nurse_presence ∷ place b.v uncovered_room ∷ [];
  s = place b.s mixed_age ∷ place b.s nurse_skill ∷ place b.s continuity_of_care ∷ place b.s excess_workload
      ∷ pos 0 ∷ pos 0 ∷ place b.s patient_delay ∷ place b.s unscheduled_optional ∷ [];
}

no-more : (x y : ℤ) → x ≡ y → x -ℤ y ≡ pos 0
no-more x y e = omega (arith, ints, e)

-- their difference is that of the numbers that rest on theatres and surgeons
by-surgery : (a b : Bill) → beside_surgery a ≡ beside_surgery b → sub_bills a b ≡ sub_bills (of_surgery a) (of_surgery b)
by-surgery a b e =
    let v : (k : ℕ) → place (beside_surgery a).v k ≡ place (beside_surgery b).v k = λ k. ap (λ (x : Bill). place x.v k) e in
    let s : (k : ℕ) → place (beside_surgery a).s k ≡ place (beside_surgery b).s k = λ k. ap (λ (x : Bill). place x.s k) e in
    bill-same _ _ _ _
    (nine-same _ _ _ _ _ _ _ _ _ _ _ _ _ _ _ _ _ _ (no-more _ _ (v 0)) (no-more _ _ (v 1)) refl refl
    (no-more _ _ (v 4)) (no-more _ _ (v 5)) (no-more _ _ (v 6)) (no-more _ _ (v 7)) (no-more _ _ (v 8)))
    (eight-same _ _ _ _ _ _ _ _ _ _ _ _ _ _ _ _ (no-more _ _ (s 0)) (no-more _ _ (s 1)) (no-more _ _ (s 2)) (no-more _ _ (s 3)) refl refl (no-more _ _ (s 6)) (no-more _ _ (s 7)))

-- ---- the same placement, but for the theatre

module _ (I : Draft) (P : Timetable) (p : PatientNo) (at : Placement) (t : TheatreNo) (plan : IsPlanOf I P) (known : p.0 < patient_count I) where
  abbrev other : Placement
  other = record at { theatre = t }

  -- the timetables with the one and with the other
  abbrev one : Timetable
  one = placed I P p at

  abbrev two : Timetable
  two = placed I P p other

  -- everybody is where they are with the other
  admitted : (x : ℕ) → admission_of I two x ≡ admission_of I one x
  admitted x = elim (cases_eq x p.0) [
    | inl same ↦ rw same (admission-set I P p (Some other) plan known ∙ sym (admission-set I P p (Some at) plan known))
    | inr apart ↦ admission-other I P p (Some other) x apart ∙ sym (admission-other I P p (Some at) x apart)
  ]

  there : (r d x : ℕ) → is_present I two r d x ≡ is_present I one r d x
  there r d x = rw (admitted x) refl

  persons : (r d : ℕ) → present I two r d ≡ present I one r d
  unfolding present
  persons r d = which_below-same (person_count I) (is_present I two r d) (is_present I one r d) (λ x h. there r d x)

  entries : (x k : ℕ) → entry_of I two x k ≡ entry_of I one x k
  unfolding entry_of
  entries x k = rw (admitted x) refl

  -- ---- cells

  on_day : (r d : ℕ) → part_at I two (room_day_cell r d) ≡ part_at I one (room_day_cell r d)
  unfolding content_of
  on_day r d = ap (λ xs. part_of I (room_day_cell r d) (persons_content xs)) (persons r d)

  in_shift : (r k : ℕ) → part_at I two (room_shift_cell r k) ≡ part_at I one (room_shift_cell r k)
  unfolding content_of
  in_shift r k =
      let entered = tagged-same (λ x. entry_of I two x k) (λ x. entry_of I one x k) (present I one r (day_of k)) (λ x h. entries x k) in
      ap (λ xs. part_of I (room_shift_cell r k) (nursing_content (care_of P r k) xs)) (ap (tagged (λ x. entry_of I two x k)) (persons r (day_of k)) ∙ entered)

  of_load : (n k : ℕ) → part_at I two (nurse_shift_cell n k) ≡ part_at I one (nurse_shift_cell n k)
  unfolding content_of
  of_load n k =
      ap (λ m. part_of I (nurse_shift_cell n k) (load_content m)) (load_of-same I two one n k (λ r h.
      if-same (is_number (care_of P r k) n) _ _ 0 (λ own. room_load-same I two one k r (λ x l. rw (there r (day_of k) x, entries x k) refl))))

  of_cares : (x : ℕ) → part_at I two (care_cell x) ≡ part_at I one (care_cell x)
  unfolding content_of shifts_of
  of_cares x = rw (admitted x) refl

  of_own : part_at I two (stay_cell p.0) ≡ part_at I one (stay_cell p.0)
  unfolding content_of part_of
  of_own =
      let sizes = plan.stays in
      let inside : p.0 < length P.stays = omega arith in
      rw (stay_of-same P p (Some other) inside, stay_of-same P p (Some at) inside) refl

  -- ---- numbers

  days-kept : (g : Counts → ℕ) → over_days I two p.0 other g ≡ over_days I one p.0 at g
  days-kept g = span-same at.day.0 (end_of I p.0 at) (λ d. g (part_at I two (room_day_cell at.room.0 d))) (λ d. g (part_at I one (room_day_cell at.room.0 d))) (λ d. ap g (on_day at.room.0 d))

  shifts-kept : (g : Counts → ℕ) → over_shifts I two p.0 other g ≡ over_shifts I one p.0 at g
  shifts-kept g =
      span-same (3 * at.day.0) (3 * end_of I p.0 at) (λ k. g (part_at I two (room_shift_cell at.room.0 k))) (λ k. g (part_at I one (room_shift_cell at.room.0 k))) (λ k. ap g (in_shift at.room.0 k))

  nurse-kept : (g : Counts → ℕ) (k : ℕ) (o : Option ℕ) → of_nurse I two p.0 other g k o ≡ of_nurse I one p.0 at g k o
  nurse-kept g k None = refl
  nurse-kept g k (Some n) = ap g (of_load n k)

  loads-kept : (g : Counts → ℕ) → over_loads I two p.0 other g ≡ over_loads I one p.0 at g
  loads-kept g =
      span-same (3 * at.day.0) (3 * end_of I p.0 at) (λ k. of_nurse I two p.0 other g k (care_of P at.room.0 k)) (λ k. of_nurse I one p.0 at g k (care_of P at.room.0 k))
      (λ k. nurse-kept g k (care_of P at.room.0 k))

  increased : (f g : Timetable → ℕ) → f two ≡ g one → f (without I P p at) ≡ g (without I P p at) → increase P p other f ≡ increase P p at g
  increased f g more less = rw (more, less) refl

  -- the numbers that rest neither on theatres nor on surgeons
  beside-same : beside_surgery (placement_delta I P p other) ≡ beside_surgery (placement_delta I P p at)
  beside-same =
      ap beside_surgery (each-told I P p other)
      ∙ (bill-same _ _ _ _
      (nine-same _ _ _ _ _ _ _ _ _ _ _ _ _ _ _ _ _ _ (days (rule_count mixed_gender)) (own (rule_count incompatible_room)) refl refl
      (own (rule_count unscheduled_mandatory)) (own (rule_count admission_window)) (days (rule_count room_capacity)) (shifts (rule_count nurse_presence)) (shifts (rule_count uncovered_room)))
      (eight-same _ _ _ _ _ _ _ _ _ _ _ _ _ _ _ _ (days (cost_count mixed_age)) (shifts (cost_count nurse_skill)) (cares (cost_count continuity_of_care)) (loads (cost_count excess_workload))
      refl refl (own (cost_count patient_delay)) (own (cost_count unscheduled_optional)))
      ∙ ap beside_surgery (sym (each-told I P p at)))
    where
      days : (g : Counts → ℕ) → increase P p other (λ Q. over_days I Q p.0 other g) ≡ increase P p at (λ Q. over_days I Q p.0 at g)
      days g = increased (λ Q. over_days I Q p.0 other g) (λ Q. over_days I Q p.0 at g) (days-kept g) refl

      shifts : (g : Counts → ℕ) → increase P p other (λ Q. over_shifts I Q p.0 other g) ≡ increase P p at (λ Q. over_shifts I Q p.0 at g)
      shifts g = increased (λ Q. over_shifts I Q p.0 other g) (λ Q. over_shifts I Q p.0 at g) (shifts-kept g) refl

      loads : (g : Counts → ℕ) → increase P p other (λ Q. over_loads I Q p.0 other g) ≡ increase P p at (λ Q. over_loads I Q p.0 at g)
      loads g = increased (λ Q. over_loads I Q p.0 other g) (λ Q. over_loads I Q p.0 at g) (loads-kept g) refl

      cares : (g : Counts → ℕ) → increase P p other (λ Q. of_care I Q p.0 other g) ≡ increase P p at (λ Q. of_care I Q p.0 at g)
      cares g = increased (λ Q. of_care I Q p.0 other g) (λ Q. of_care I Q p.0 at g) (ap g (of_cares p.0)) refl

      own : (g : Counts → ℕ) → increase P p other (λ Q. of_stay I Q p.0 other g) ≡ increase P p at (λ Q. of_stay I Q p.0 at g)
      own g = increased (λ Q. of_stay I Q p.0 other g) (λ Q. of_stay I Q p.0 at g) (ap g of_own) refl

-- ---- any two placements

placement-is : (a b : Placement) → b.room ≡ a.room → b.day ≡ a.day → record a { theatre = b.theatre } ≡ b
placement-is a b room day = rw (sym room, sym day) refl

-- With one room and one day, the deltas differ by what rests on theatres and surgeons.
pub deltas-apart : (I : Draft) (P : Timetable) (p : PatientNo) (a b : Placement) → IsPlanOf I P → p.0 < patient_count I → b.room ≡ a.room → b.day ≡ a.day
    → sub_bills (placement_delta I P p b) (placement_delta I P p a) ≡ sub_bills (of_surgery (placement_delta I P p b)) (of_surgery (placement_delta I P p a))
deltas-apart I P p a b plan known room day =
    by-surgery (placement_delta I P p b) (placement_delta I P p a)
    (subst (λ x. beside_surgery (placement_delta I P p x) ≡ beside_surgery (placement_delta I P p a)) (placement-is a b room day) (beside-same I P p a b.theatre plan known))
