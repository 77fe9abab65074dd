-- A delta is put together from what each ledger tells of its cells.
use Rattle.std.proofs.Common.{◌≡◌, ℕ, ◌<◌, ◌^◌, refl, arith, ap, sym, subst, ◌∙◌, List, [], ◌∷◌, length, Some, None}
use Rattle.std.specs.Prelude.{ℤ, pos, slice_get}
use Rattle.ih_tables.specs.declared.drafts.Draft.{Draft}
use Rattle.ih_tables.specs.declared.drafts.Patient.{Patient}
use Rattle.ih_tables.specs.declared.ids.PatientNo.{PatientNo}
use Rattle.ih_tables.specs.declared.cells.Cell.{Cell}
use Rattle.ih_tables.specs.declared.bills.Bill.{Bill}
use Rattle.ih_tables.specs.Bills.{at as place, sub_bills, IsWithin}
use Rattle.ih_plan.specs.declared.moves.Placement.{Placement}
use Rattle.ih_plan.specs.Timetable.{Timetable}
use Rattle.ih_plan.specs.Costs.{surgeon_of}
use Rattle.ih_plan.specs.BillOf.{Counts, as_bill, rule_count, cost_count}
use Rattle.ih_plan.specs.Cells.{part_at}
use Rattle.ih_plan.proofs.Entries.{stay_of-same}
use Rattle.ih_plan.proofs.CellNumbers.{stay_cell, theatre_day_cell, surgeon_day_cell, care_cell}
use Rattle.ih_costs.specs.StayPart.{stay_part}
use Rattle.ih_tables.specs.BillNumbers.{mixed_gender, incompatible_room, surgeon_overrun, theatre_overrun, unscheduled_mandatory, admission_window, room_capacity, uncovered_room}
use Rattle.ih_tables.specs.BillNumbers.{mixed_age, nurse_skill, continuity_of_care, excess_workload, open_theatre, surgeon_transfer, patient_delay, unscheduled_optional}
use Rattle.ih_costs.specs.StayDelta.{of_surgeon, over_days, over_shifts, over_loads, of_surgery, placement_delta}
use Rattle.ih_costs.proofs.ChangeLemmas.{stay-is}
use Rattle.ih_costs.proofs.DayDeltas.{placed, without}
use Rattle.ih_costs.proofs.DeltaNumbers.{numbers, each-told, off-same}
use Rattle.ih_costs.proofs.DeltaSteps.{handed, rule-less, cost-less, passed-is}
use Rattle.ih_nurses.specs.Deltas.{increase_by_placement as increase}

pub bill-same : (a b c d : List ℤ) → a ≡ c → b ≡ d → (let x : Bill = record { v = a; s = b } in let y : Bill = record { v = c; s = d } in x ≡ y)
bill-same a b c d e f = rw (e, f) refl

pub nine-same : (a0 a1 a2 a3 a4 a5 a6 a7 a8 b0 b1 b2 b3 b4 b5 b6 b7 b8 : ℤ) → a0 ≡ b0 → a1 ≡ b1 → a2 ≡ b2 → a3 ≡ b3 → a4 ≡ b4 → a5 ≡ b5 → a6 ≡ b6 → a7 ≡ b7 → a8 ≡ b8
    → (a0 ∷ a1 ∷ a2 ∷ a3 ∷ a4 ∷ a5 ∷ a6 ∷ a7 ∷ a8 ∷ []) ≡ (b0 ∷ b1 ∷ b2 ∷ b3 ∷ b4 ∷ b5 ∷ b6 ∷ b7 ∷ b8 ∷ [])
nine-same a0 a1 a2 a3 a4 a5 a6 a7 a8 b0 b1 b2 b3 b4 b5 b6 b7 b8 e0 e1 e2 e3 e4 e5 e6 e7 e8 = rw (e0, e1, e2, e3, e4, e5, e6, e7, e8) refl

pub eight-same : (a0 a1 a2 a3 a4 a5 a6 a7 b0 b1 b2 b3 b4 b5 b6 b7 : ℤ) → a0 ≡ b0 → a1 ≡ b1 → a2 ≡ b2 → a3 ≡ b3 → a4 ≡ b4 → a5 ≡ b5 → a6 ≡ b6 → a7 ≡ b7
    → (a0 ∷ a1 ∷ a2 ∷ a3 ∷ a4 ∷ a5 ∷ a6 ∷ a7 ∷ []) ≡ (b0 ∷ b1 ∷ b2 ∷ b3 ∷ b4 ∷ b5 ∷ b6 ∷ b7 ∷ [])
eight-same a0 a1 a2 a3 a4 a5 a6 a7 b0 b1 b2 b3 b4 b5 b6 b7 e0 e1 e2 e3 e4 e5 e6 e7 = rw (e0, e1, e2, e3, e4, e5, e6, e7) refl

-- numbers that are at most 10^11 in magnitude, as they are handed on in 64 bits
passed-bill : (x0 x1 x2 x3 x4 x5 x6 x8 y0 y1 y2 y3 y4 y5 y6 y7 : ℤ) → (let b : Bill = record {
  v = x0 ∷ x1 ∷ x2 ∷ x3 ∷ x4 ∷ x5 ∷ x6 ∷ pos 0 ∷ x8 ∷ [];
  s = y0 ∷ y1 ∷ y2 ∷ y3 ∷ y4 ∷ y5 ∷ y6 ∷ y7 ∷ [];
} in IsWithin (10 ^ 11) b)
    → (let a : Bill = record {
      v = handed x0 ∷ handed x1 ∷ handed x2 ∷ handed x3 ∷ handed x4 ∷ handed x5 ∷ handed x6 ∷ pos 0 ∷ handed x8 ∷ [];
      s = handed y0 ∷ handed y1 ∷ handed y2 ∷ handed y3 ∷ handed y4 ∷ handed y5 ∷ handed y6 ∷ handed y7 ∷ [];
    } in
    let b : Bill = record { v = x0 ∷ x1 ∷ x2 ∷ x3 ∷ x4 ∷ x5 ∷ x6 ∷ pos 0 ∷ x8 ∷ []; s = y0 ∷ y1 ∷ y2 ∷ y3 ∷ y4 ∷ y5 ∷ y6 ∷ y7 ∷ [] } in
    a ≡ b)
passed-bill x0 x1 x2 x3 x4 x5 x6 x8 y0 y1 y2 y3 y4 y5 y6 y7 w =
    let b : Bill = record { v = x0 ∷ x1 ∷ x2 ∷ x3 ∷ x4 ∷ x5 ∷ x6 ∷ pos 0 ∷ x8 ∷ []; s = y0 ∷ y1 ∷ y2 ∷ y3 ∷ y4 ∷ y5 ∷ y6 ∷ y7 ∷ [] } in
    let v : (k : ℕ) → k < 9 → handed (place b.v k) ≡ place b.v k = λ k h. passed-is (place b.v k) (w.v k h).0 (w.v k h).1 in
    let s : (k : ℕ) → k < 8 → handed (place b.s k) ≡ place b.s k = λ k h. passed-is (place b.s k) (w.s k h).0 (w.s k h).1 in
    bill-same _ _ _ _
    (nine-same _ _ _ _ _ _ _ _ _ _ _ _ _ _ _ _ _ _ (v 0 (omega arith)) (v 1 (omega arith)) (v 2 (omega arith)) (v 3 (omega arith))
    (v 4 (omega arith)) (v 5 (omega arith)) (v 6 (omega arith)) refl (v 8 (omega arith)))
    (eight-same _ _ _ _ _ _ _ _ _ _ _ _ _ _ _ _ (s 0 (omega arith)) (s 1 (omega arith)) (s 2 (omega arith)) (s 3 (omega arith))
    (s 4 (omega arith)) (s 5 (omega arith)) (s 6 (omega arith)) (s 7 (omega arith)))

module _ (I : Draft) (P : Timetable) (p : PatientNo) (at : Placement) where
  -- the bill tells what a cell costs with the placement, less what it costs without
  abbrev pub tells : Cell → Bill → Type 0
  tells c b = b ≡ sub_bills (as_bill (part_at I (placed I P p at) c)) (as_bill (part_at I (without I P p at) c))

  rule-told : (c : Cell) (b : Bill) (k : ℕ) → tells c b → k < 9 → place b.v k ≡ increase P p at (λ Q. rule_count k (part_at I Q c))
  rule-told c b k e h = ap (λ z. place z.v k) e ∙ rule-less (part_at I (placed I P p at) c) (part_at I (without I P p at) c) k h

  cost-told : (c : Cell) (b : Bill) (k : ℕ) → tells c b → k < 8 → place b.s k ≡ increase P p at (λ Q. cost_count k (part_at I Q c))
  cost-told c b k e h = ap (λ z. place z.s k) e ∙ cost-less (part_at I (placed I P p at) c) (part_at I (without I P p at) c) k h

  -- the patient's own stay
  pub own-delta : (a : Patient) (own : Bill) → slice_get I.patients p.0 ≡ Some a → p.0 < length P.stays → own ≡ sub_bills (as_bill (stay_part a (Some at))) (as_bill (stay_part a None))
      → tells (stay_cell p.0) own
  own-delta a own known inside e =
      let more : part_at I (placed I P p at) (stay_cell p.0) ≡ stay_part a (Some at) = stay-is I (placed I P p at) p a known ∙ ap (stay_part a) (stay_of-same P p (Some at) inside) in
      let less : part_at I (without I P p at) (stay_cell p.0) ≡ stay_part a None = stay-is I (without I P p at) p a known ∙ ap (stay_part a) (stay_of-same P p None inside) in
      e ∙ (ap (λ k. sub_bills (as_bill k) (as_bill (stay_part a None))) (sym more) ∙ ap (λ k. sub_bills (as_bill (part_at I (placed I P p at) (stay_cell p.0))) (as_bill k)) (sym less))

  -- the same, as the number is handed on in 64 bits
  rule-passed : (c : Cell) (b : Bill) (k : ℕ) → tells c b → IsWithin (10 ^ 11) b → k < 9 → handed (place b.v k) ≡ increase P p at (λ Q. rule_count k (part_at I Q c))
  rule-passed c b k e small h = passed-is (place b.v k) (small.v k h).0 (small.v k h).1 ∙ rule-told c b k e h

  cost-passed : (c : Cell) (b : Bill) (k : ℕ) → tells c b → IsWithin (10 ^ 11) b → k < 8 → handed (place b.s k) ≡ increase P p at (λ Q. cost_count k (part_at I Q c))
  cost-passed c b k e small h = passed-is (place b.s k) (small.s k h).0 (small.s k h).1 ∙ cost-told c b k e h

  -- the numbers that rest on the theatre and the surgeon, as they are handed on in 64 bits
  pub surgery-passed : (s : ℕ) (theatre surgeon : Bill) → surgeon_of I p.0 ≡ Some s
      → tells (theatre_day_cell at.theatre.0 at.day.0) theatre → IsWithin (10 ^ 11) theatre
      → tells (surgeon_day_cell s at.day.0) surgeon → IsWithin (10 ^ 11) surgeon → (let b : Bill = record {
        v = pos 0 ∷ pos 0 ∷ handed (place surgeon.v surgeon_overrun) ∷ handed (place theatre.v theatre_overrun) ∷ pos 0 ∷ pos 0 ∷ pos 0 ∷ pos 0 ∷ pos 0 ∷ [];
        s = pos 0 ∷ pos 0 ∷ pos 0 ∷ pos 0 ∷ handed (place theatre.s open_theatre) ∷ handed (place surgeon.s surgeon_transfer) ∷ pos 0 ∷ pos 0 ∷ [];
      } in b ≡ of_surgery (placement_delta I P p at))
  surgery-passed s theatre surgeon own theatre_is theatre_small surgeon_is surgeon_small =
      let theatre_rule = λ (k : ℕ) (h : k < 9). rule-passed (theatre_day_cell at.theatre.0 at.day.0) theatre k theatre_is theatre_small h in
      let theatre_cost = λ (k : ℕ) (h : k < 8). cost-passed (theatre_day_cell at.theatre.0 at.day.0) theatre k theatre_is theatre_small h in
      let surgeon_rule = λ (k : ℕ) (h : k < 9). rule-passed (surgeon_day_cell s at.day.0) surgeon k surgeon_is surgeon_small h in
      let surgeon_cost = λ (k : ℕ) (h : k < 8). cost-passed (surgeon_day_cell s at.day.0) surgeon k surgeon_is surgeon_small h in
      bill-same _ _ _ _
      (nine-same _ _ _ _ _ _ _ _ _ _ _ _ _ _ _ _ _ _ refl refl
      (of_own (rule_count surgeon_overrun) (handed (place surgeon.v surgeon_overrun)) (surgeon_rule surgeon_overrun (omega arith)))
      (theatre_rule theatre_overrun (omega arith)) refl refl refl refl refl)
      (eight-same _ _ _ _ _ _ _ _ _ _ _ _ _ _ _ _ refl refl refl refl
      (theatre_cost open_theatre (omega arith))
      (of_own (cost_count surgeon_transfer) (handed (place surgeon.s surgeon_transfer)) (surgeon_cost surgeon_transfer (omega arith))) refl refl)
      ∙ ap of_surgery (sym (each-told I P p at))
    where
      of_own : (g : Counts → ℕ) (z : ℤ) → z ≡ increase P p at (λ Q. of_surgeon I Q p.0 at g (Some s)) → z ≡ increase P p at (λ Q. of_surgeon I Q p.0 at g (surgeon_of I p.0))
      of_own g z e = e ∙ ap (λ o. increase P p at (λ Q. of_surgeon I Q p.0 at g o)) (sym own)

  module _ (own surgery care : Bill) (mixed crowded ages alone skill load : ℤ)
      (own_is : tells (stay_cell p.0) own)
      (surgery_is : surgery ≡ of_surgery (placement_delta I P p at))
      (care_is : tells (care_cell p.0) care)
      (mixed_is : mixed ≡ increase P p at (λ Q. over_days I Q p.0 at (rule_count mixed_gender)))
      (crowded_is : crowded ≡ increase P p at (λ Q. over_days I Q p.0 at (rule_count room_capacity)))
      (ages_is : ages ≡ increase P p at (λ Q. over_days I Q p.0 at (cost_count mixed_age)))
      (alone_is : alone ≡ increase P p at (λ Q. over_shifts I Q p.0 at (rule_count uncovered_room)))
      (skill_is : skill ≡ increase P p at (λ Q. over_shifts I Q p.0 at (cost_count nurse_skill)))
      (load_is : load ≡ increase P p at (λ Q. over_loads I Q p.0 at (cost_count excess_workload))) where
    own-rule : (k : ℕ) → k < 9 → place own.v k ≡ increase P p at (λ Q. rule_count k (part_at I Q (stay_cell p.0)))
    own-rule k h = rule-told (stay_cell p.0) own k own_is h

    own-cost : (k : ℕ) → k < 8 → place own.s k ≡ increase P p at (λ Q. cost_count k (part_at I Q (stay_cell p.0)))
    own-cost k h = cost-told (stay_cell p.0) own k own_is h

    operated : surgery ≡ of_surgery (numbers I P p at)
    operated = surgery_is ∙ ap of_surgery (each-told I P p at)

    surgery-rule : (k : ℕ) → place surgery.v k ≡ place (of_surgery (numbers I P p at)).v k
    surgery-rule k = ap (λ b. place b.v k) operated

    surgery-cost : (k : ℕ) → place surgery.s k ≡ place (of_surgery (numbers I P p at)).s k
    surgery-cost k = ap (λ b. place b.s k) operated

    pub parts-delta : (let b : Bill = record {
      v = mixed ∷ place own.v incompatible_room ∷ place surgery.v surgeon_overrun ∷ place surgery.v theatre_overrun
          ∷ place own.v unscheduled_mandatory ∷ place own.v admission_window ∷ crowded ∷ pos 0 ∷ alone ∷ [];
      s = ages ∷ skill ∷ place care.s continuity_of_care ∷ load ∷ place surgery.s open_theatre ∷ place surgery.s surgeon_transfer
          ∷ place own.s patient_delay ∷ place own.s unscheduled_optional ∷ [];
    } in b ≡ placement_delta I P p at)
    parts-delta =
        bill-same _ _ _ _
        (nine-same _ _ _ _ _ _ _ _ _ _ _ _ _ _ _ _ _ _ mixed_is (own-rule incompatible_room (omega arith))
        (surgery-rule surgeon_overrun) (surgery-rule theatre_overrun)
        (own-rule unscheduled_mandatory (omega arith)) (own-rule admission_window (omega arith)) crowded_is (sym (off-same I P p at)) alone_is)
        (eight-same _ _ _ _ _ _ _ _ _ _ _ _ _ _ _ _ ages_is skill_is (cost-told (care_cell p.0) care continuity_of_care care_is (omega arith)) load_is
        (surgery-cost open_theatre) (surgery-cost surgeon_transfer)
        (own-cost patient_delay (omega arith)) (own-cost unscheduled_optional (omega arith)))
        ∙ sym (each-told I P p at)

    -- the same, as the numbers are handed on in 64 bits
    pub parts-passed : IsWithin (10 ^ 11) (placement_delta I P p at) → (let b : Bill = record {
      v = handed mixed ∷ handed (place own.v incompatible_room) ∷ handed (place surgery.v surgeon_overrun) ∷ handed (place surgery.v theatre_overrun)
          ∷ handed (place own.v unscheduled_mandatory) ∷ handed (place own.v admission_window) ∷ handed crowded ∷ pos 0 ∷ handed alone ∷ [];
      s = handed ages ∷ handed skill ∷ handed (place care.s continuity_of_care) ∷ handed load
          ∷ handed (place surgery.s open_theatre) ∷ handed (place surgery.s surgeon_transfer) ∷ handed (place own.s patient_delay) ∷ handed (place own.s unscheduled_optional) ∷ [];
    } in b ≡ placement_delta I P p at)
    parts-passed small = passed-bill _ _ _ _ _ _ _ _ _ _ _ _ _ _ _ _ (subst (IsWithin (10 ^ 11)) (sym parts-delta) small) ∙ parts-delta
