-- What another choice of nurse for a room's shift makes of the workloads above the maximum, and of the care of the
-- persons there.
use Rattle.std.proofs.Common.{◌≡◌, ◌≢◌, ℕ, ◌+◌, ◌-◌, ◌<◌, ◌≤◌, refl, arith, sym, ap, subst, ◌∙◌, true, inl, inr, List, ℤ, Option, Some, None, pos, of_z, to_z, w64}
use Rattle.std.specs.Prelude.{FitsSigned, ◌-ℤ◌, ◌+ℤ◌, ◌==◌, if◌then◌else◌, nat_le, nat_lt, sum_by, IfSome}
use Rattle.std.proofs.lemmas.Bool.{cases_Bool, eq-eqb, ne_eqb, eqb-true, leb-true, and_parts}
use Rattle.std.proofs.lemmas.Int.{ints, to_z-of_z}
use Rattle.ih_tables.specs.declared.drafts.Draft.{Draft}
use Rattle.ih_tables.specs.declared.ids.RoomNo.{RoomNo}
use Rattle.ih_tables.specs.declared.ids.Shift.{Shift}
use Rattle.ih_tables.specs.declared.ids.NurseNo.{NurseNo}
use Rattle.ih_tables.specs.declared.cells.Cell.TheVariants.{Care}
use Rattle.ih_tables.specs.Sizes.{person_count, room_count, shift_count, nurse_count}
use Rattle.ih_links.specs.Lists.{LinksState}
use Rattle.ih_tables.specs.BillNumbers.{continuity_of_care}
use Rattle.ih_plan.specs.declared.moves.Write.TheVariants.{SetCare}
use Rattle.ih_plan.specs.Timetable.{Timetable, IsPlanOf, care_of, choice_of}
use Rattle.ih_plan.specs.Writes.{put}
use Rattle.ih_plan.specs.Persons.{person_of}
use Rattle.ih_plan.specs.Presence.{Admission, admission_of, covers, day_of, is_in, is_present, present, room_of, shifts_of}
use Rattle.ih_plan.specs.Costs.{distinct_nurses, is_number, load_of, nurse_for}
use Rattle.ih_plan.specs.BillOf.{cost_count}
use Rattle.ih_plan.specs.Cells.{part_at, part_of, content_of}
use Rattle.ih_plan.specs.Sums.{sum_below}
use Rattle.ih_plan.proofs.ListedBelow.{tagged-values}
use Rattle.ih_plan.proofs.Loads.{room_load, load-moves}
use Rattle.ih_plan.proofs.SumBounds.{sum_below-add}
use Rattle.ih_plan.proofs.SumLemmas.{sum_below-same, sum_by-which_below}
use Rattle.ih_plan.proofs.Entries.{number_of_nurse}
use Rattle.ih_nurses.specs.Ledger.{IsTied}
use Rattle.ih_nurses.specs.Choice.{excess_of, seen_by, increase_by_choice}
use Rattle.ih_nurses.specs.declared.loads.NurseLoad.{NurseLoad}
use Rattle.ih_nurses.specs.Loads.{AreLoads, load_at, excess_increase}
use Rattle.ih_nurses.specs.ShiftSpans.{IsShiftSpan, nurses_over, shift_span_in}
use Rattle.ih_nurses.proofs.DifferenceLemmas.{apart-same}
use Rattle.ih_nurses.proofs.NewlyLemmas.{newly_seen_of, seen-change}
use Rattle.ih_nurses.proofs.ShiftSpanLemmas.{nurses-alike, shift_span-kept}

-- ---- workloads

if-other : (o : Option ℕ) (n w : ℕ) → o ≢ Some n → (if is_number o n then w else 0) ≡ 0
if-other None n w ne = refl
if-other (Some m) n w ne = rw (ne_eqb m n (λ e. ne (ap Some e))) refl

if-own : (n w : ℕ) → (if n == n then w else 0) ≡ w
if-own n w = rw (eq-eqb n n refl) refl

module _ (I : Draft) (P : Timetable) (r : RoomNo) (k : Shift) (new : Option NurseNo) (plan : IsPlanOf I P) (room : r.0 < room_count I) (shift : k.0 < shift_count I)
    (other : care_of P r.0 k.0 ≢ number_of_nurse new) where
  -- the nurse whose shift it is loses the room's load
  load-gone : (a : NurseNo) → choice_of P r.0 k.0 ≡ Some a → load_of I (put (SetCare r k new) P) a.0 k.0 + room_load I P k.0 r.0 ≡ load_of I P a.0 k.0
  load-gone a is =
      let moves = load-moves I P r k new plan room shift a.0 in
      let mine : care_of P r.0 k.0 ≡ Some a.0 = ap number_of_nurse is in
      let before : (if is_number (care_of P r.0 k.0) a.0 then room_load I P k.0 r.0 else 0) ≡ room_load I P k.0 r.0 = rw mine (if-own a.0 (room_load I P k.0 r.0)) in
      let after = if-other (number_of_nurse new) a.0 (room_load I P k.0 r.0) (λ e. other (mine ∙ sym e)) in
      omega (arith, moves, before, after)

  -- the nurse whose shift it would be takes it
  load-come : (a : NurseNo) → new ≡ Some a → load_of I (put (SetCare r k new) P) a.0 k.0 ≡ load_of I P a.0 k.0 + room_load I P k.0 r.0
  load-come a is =
      let moves = load-moves I P r k new plan room shift a.0 in
      let mine : number_of_nurse new ≡ Some a.0 = ap number_of_nurse is in
      let before = if-other (care_of P r.0 k.0) a.0 (room_load I P k.0 r.0) (λ e. other (e ∙ sym mine)) in
      let after : (if is_number (number_of_nurse new) a.0 then room_load I P k.0 r.0 else 0) ≡ room_load I P k.0 r.0 = rw mine (if-own a.0 (room_load I P k.0 r.0)) in
      omega (arith, moves, before, after)

  -- the table has the room's load for the nurse whose shift it is
  pub load-there : (loads : List NurseLoad) (prev : Option NurseNo) (work : ℕ) → AreLoads I P loads → prev ≡ choice_of P r.0 k.0 → IfSome prev (λ a. a.0 < nurse_count I)
      → work ≡ room_load I P k.0 r.0 → IfSome prev (λ a. work ≤ load_at I loads a.0 k.0)
  load-there loads None work known is nurse total = tt
  load-there loads (Some a) work known is nurse total =
      let gone = load-gone a (sym is) in
      let table = known.each a.0 k.0 nurse shift in
      omega (arith, gone, table, total)

-- what is told from the table is the increase of the part
excess-told : (I : Draft) (P Q : Timetable) (k : ℕ) (loads : List NurseLoad) (o : Option NurseNo) (after : ℕ → ℕ) → AreLoads I P loads → k < shift_count I
    → IfSome o (λ a. a.0 < nurse_count I) → ((a : NurseNo) → o ≡ Some a → load_of I Q a.0 k ≡ after (load_of I P a.0 k))
    → excess_increase I loads o k after ≡ pos (excess_of I Q k (number_of_nurse o)) -ℤ pos (excess_of I P k (number_of_nurse o))
unfolding part_of content_of
excess-told I P Q k loads None after known shift nurse e = refl
excess-told I P Q k loads (Some a) after known shift nurse e = rw (e a refl, known.each a.0 k nurse shift) refl

both-increase : (a b c d : ℕ) → (pos a -ℤ pos b) +ℤ (pos c -ℤ pos d) ≡ pos (a + c) -ℤ pos (b + d)
both-increase a b c d = omega (arith, ints)

pub loads-told : (I : Draft) (P : Timetable) (r : RoomNo) (k : Shift) (new : Option NurseNo) (loads : List NurseLoad) (work : ℕ) → IsPlanOf I P → r.0 < room_count I → k.0 < shift_count I
    → care_of P r.0 k.0 ≢ number_of_nurse new → AreLoads I P loads → work ≡ room_load I P k.0 r.0
    → IfSome (choice_of P r.0 k.0) (λ a. a.0 < nurse_count I) → IfSome new (λ a. a.0 < nurse_count I)
    → excess_increase I loads (choice_of P r.0 k.0) k.0 (λ load. load - work + 0) +ℤ excess_increase I loads new k.0 (λ load. load - 0 + work)
    ≡ increase_by_choice P r k new (λ Q. excess_of I Q k.0 (care_of P r.0 k.0) + excess_of I Q k.0 (number_of_nurse new))
loads-told I P r k new loads work plan room shift other known total old_nurse new_nurse =
    let Q : Timetable = put (SetCare r k new) P in
    let gone = excess-told I P Q k.0 loads (choice_of P r.0 k.0) (λ load. load - work + 0) known shift old_nurse
    (λ a is. let step = load-gone I P r k new plan room shift other a is in omega (arith, step, total)) in
    let come = excess-told I P Q k.0 loads new (λ load. load - 0 + work) known shift new_nurse
    (λ a is. let step = load-come I P r k new plan room shift other a is in omega (arith, step, total)) in
    rw (gone, come)
    (both-increase (excess_of I Q k.0 (care_of P r.0 k.0)) (excess_of I P k.0 (care_of P r.0 k.0)) (excess_of I Q k.0 (number_of_nurse new)) (excess_of I P k.0 (number_of_nurse new)))

-- ---- care

-- the distinct nurses of person x
abbrev seen_of : Draft → Timetable → ℕ → ℕ
seen_of I P x = distinct_nurses I (nurses_over P (shift_span_in I (admission_of I P x) (person_of I x).length_of_stay))

seen-part : (I : Draft) (P : Timetable) (x : ℕ) → cost_count continuity_of_care (part_at I P (Care (record { 0 = x }))) ≡ seen_of I P x
unfolding part_of content_of shifts_of
seen-part I P x =
    ap (distinct_nurses I) (tagged-values (nurse_for P (room_of I P x)) (shifts_of I P x) ∙ nurses-alike I P (admission_of I P x) (person_of I x).length_of_stay)

-- the stay of who is present is within the horizon, in a room of the instance
present-shift_span : (I : Draft) (P : Timetable) (r k x : ℕ) → r < room_count I → k < shift_count I → is_present I P r (day_of k) x ≡ true
    → IfSome (shift_span_in I (admission_of I P x) (person_of I x).length_of_stay) (IsShiftSpan I)
present-shift_span I P r k x room shift there = by_case (admission_of I P x) (person_of I x).length_of_stay there
  where
    by_case : (o : Option Admission) (n : ℕ) → is_in o n r (day_of k) ≡ true → IfSome (shift_span_in I o n) (IsShiftSpan I)
    by_case None n h = tt
    by_case (Some a) n h =
        let parts = and_parts (a.room == r) (covers a.day n (day_of k)) h in
        let here = eqb-true a.room r parts.0 in
        let from = leb-true a.day (day_of k) (and_parts (nat_le a.day (day_of k)) (nat_lt (day_of k) (a.day + n)) parts.1).0 in
        (omega (arith, here, room), omega (arith, from, shift))

module _ (I : Draft) (P : Timetable) (r : RoomNo) (k : Shift) (new : Option NurseNo) (plan : IsPlanOf I P) (room : r.0 < room_count I) (shift : k.0 < shift_count I)
    (nurse : IfSome new (λ a. a.0 < nurse_count I)) where
  -- what a person gives to the sum over the persons present
  abbrev there : (ℕ → ℕ) → ℕ → ℕ
  there f x = if is_present I P r.0 (day_of k.0) x then f x else 0

  seen-moves : (x : ℕ) → is_present I P r.0 (day_of k.0) x ≡ true
      → newly_seen_of I P r.0 k.0 new x + seen_of I P x ≡ seen_of I (put (SetCare r k new) P) x + newly_seen_of I P r.0 k.0 (choice_of P r.0 k.0) x
  seen-moves x here =
      rw (shift_span-kept I P r k new x)
      (seen-change I P r k new plan room shift nurse (shift_span_in I (admission_of I P x) (person_of I x).length_of_stay) (present-shift_span I P r.0 k.0 x room shift here))

  each-moves : (x : ℕ) → there (newly_seen_of I P r.0 k.0 new) x + there (seen_of I P) x ≡ there (seen_of I (put (SetCare r k new) P)) x + there (newly_seen_of I P r.0 k.0 (choice_of P r.0 k.0)) x
  each-moves x = elim (cases_Bool (is_present I P r.0 (day_of k.0) x)) [
    | inl here ↦ rw here (seen-moves x here)
    | inr away ↦ rw away refl
  ]

  over-present : (f g : ℕ → ℕ) → ((x : ℕ) → f x ≡ g x) → sum_by f (present I P r.0 (day_of k.0)) ≡ sum_below (person_count I) (there g)
  unfolding present
  over-present f g e =
      sum_by-which_below f (person_count I) (is_present I P r.0 (day_of k.0))
      ∙ sum_below-same (person_count I) (there f) (there g) (λ x h. ap (λ n. if is_present I P r.0 (day_of k.0) x then n else 0) (e x))

  pub cares-told : (come gone : ℕ) → come ≡ sum_by (newly_seen_of I P r.0 k.0 new) (present I P r.0 (day_of k.0))
      → gone ≡ sum_by (newly_seen_of I P r.0 k.0 (choice_of P r.0 k.0)) (present I P r.0 (day_of k.0))
      → pos come -ℤ pos gone ≡ increase_by_choice P r k new (λ Q. seen_by I Q (present I P r.0 (day_of k.0)))
  cares-told come gone come_is gone_is =
      let Q : Timetable = put (SetCare r k new) P in
      let newly = newly_seen_of I P r.0 k.0 new in
      let before = newly_seen_of I P r.0 k.0 (choice_of P r.0 k.0) in
      let a = over-present newly newly (λ x. refl) in
      let b = over-present before before (λ x. refl) in
      let p = over-present (λ x. cost_count continuity_of_care (part_at I P (Care (record { 0 = x })))) (seen_of I P) (seen-part I P) in
      let q = over-present (λ x. cost_count continuity_of_care (part_at I Q (Care (record { 0 = x })))) (seen_of I Q) (seen-part I Q) in
      let moves = sum_below-same (person_count I) (λ x. there newly x + there (seen_of I P) x) (λ x. there (seen_of I Q) x + there before x) (λ x h. each-moves x) in
      let left = sum_below-add (person_count I) (there newly) (there (seen_of I P)) in
      let right = sum_below-add (person_count I) (there (seen_of I Q)) (there before) in
      apart-same come gone (seen_by I Q (present I P r.0 (day_of k.0))) (seen_by I P (present I P r.0 (day_of k.0)))
      (omega (arith, come_is, gone_is, a, b, p, q, moves, left, right))

-- an increase that is told of the timetable that is kept, as a signed number of 64 bits, is one at each that it stands for
pub increase-for : {I : Draft} {P plan : Timetable} {here : List LinksState} {loads : List NurseLoad} {counts : List ℕ} → IsTied I P plan here loads counts
    → (r : RoomNo) (k : Shift) (new : Option NurseNo) (f : Timetable → Timetable → ℕ) (z : ℤ) → FitsSigned w64 z → z ≡ increase_by_choice plan r k new (f plan)
    → to_z w64 (of_z w64 z) ≡ increase_by_choice P r k new (f P)
increase-for known r k new f z fits e = subst (λ (S : Timetable). to_z w64 (of_z w64 z) ≡ increase_by_choice S r k new (f S)) known.plan_is (to_z-of_z w64 z fits ∙ e)
