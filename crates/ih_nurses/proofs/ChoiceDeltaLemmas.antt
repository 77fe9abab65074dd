-- What one walk over a room's list adds up is what another choice of nurse changes.
use Rattle.std.proofs.Common.{◌≡◌, ◌≢◌, ℕ, zero, suc, ◌+◌, ◌-◌, ◌<◌, refl, arith, sym, ap, subst, ◌∙◌, Bool, true, false, inl, inr, List, map, Option, Some, None, pos}
use Rattle.std.specs.Prelude.{◌-ℤ◌, ◌==◌, ◌&&◌, ◌||◌, not, is_none, if◌then◌else◌, sum_by, IfSome}
use Rattle.std.specs.List.{list_any, range_with_len}
use Rattle.std.proofs.lemmas.Bool.{cases_eq, cases_Bool, eq-eqb, ne_eqb}
use Rattle.ih_tables.specs.declared.drafts.Draft.{Draft}
use Rattle.ih_tables.specs.declared.ids.RoomNo.{RoomNo}
use Rattle.ih_tables.specs.declared.ids.Shift.{Shift}
use Rattle.ih_tables.specs.declared.ids.NurseNo.{NurseNo}
use Rattle.ih_tables.specs.Sizes.{person_count, room_count, shift_count, nurse_count}
use Rattle.ih_links.specs.Lists.{LinksState, list_of}
use Rattle.ih_plan.specs.declared.moves.Write.TheVariants.{SetCare}
use Rattle.ih_plan.specs.Timetable.{Timetable, IsPlanOf, care_of, choice_of}
use Rattle.ih_plan.specs.Writes.{put}
use Rattle.ih_plan.specs.Persons.{person_of}
use Rattle.ih_plan.specs.Presence.{Admission, admission_of, entry_of, day_of, is_in, is_present, present, skill_of}
use Rattle.ih_plan.specs.Costs.{is_empty, is_number, not_working, skill_missing}
use Rattle.ih_plan.specs.Cells.{part_of, content_of}
use Rattle.ih_plan.specs.Sums.{bit, count_below}
use Rattle.ih_plan.proofs.Entries.{care_of-same, number_of_nurse}
use Rattle.ih_plan.proofs.SumLemmas.{sum_below-zero, sum_below-more, sum_below-but, sum_below-same, sum_by-which_below}
use Rattle.ih_nurses.specs.declared.shift_spans.ShiftSpan.{ShiftSpan}
use Rattle.ih_nurses.specs.Choice.{increase_by_choice}
use Rattle.ih_nurses.specs.Counts.{AreCounts, has_just, nursed_in}
use Rattle.ih_nurses.specs.Deltas.{off_in, uncovered_in, missing_in}
use Rattle.ih_nurses.specs.ShiftSpans.{shift_span_in}
use Rattle.ih_nurses.proofs.CountLemmas.{shift-of, shift_span_of, there-shift}
use Rattle.ih_nurses.proofs.DifferenceLemmas.{apart-same}
use Rattle.ih_nurses.proofs.NewlyLemmas.{any-more, has_other, has_shift, newly_seen, newly_seen_of}
use Rattle.ih_nurses.proofs.PlacedLemmas.{uncovered-is, missing-is}
use Rattle.ih_nurses.proofs.RoomChangeLemmas.{IsRoomList, list-alike}
use Rattle.ih_nurses.proofs.RoomLemmas.{AreAlike, alike-empty, alike-missing}

-- ---- a nurse who is met anew, by counts

zero-more : (n : ℕ) → ((n + 1) == 0) ≡ false
zero-more n = ne_eqb (n + 1) 0 (omega arith)

-- some number of a range passes where their count isn't 0
any-counted : (q : ℕ → Bool) (a n : ℕ) → list_any q (range_with_len a n) ≡ not (count_below n (λ j. q (a + j)) == 0)
any-counted q a zero = rw (sum_below-zero (λ j. bit (q (a + j)))) refl
any-counted q a (suc n) =
    let more : n + 1 ≡ suc n = omega arith in
    subst (λ m. list_any q (range_with_len a m) ≡ not (count_below m (λ j. q (a + j)) == 0)) more
    (any-more q a n ∙ rw (any-counted q a n, sum_below-more n (λ j. bit (q (a + j)))) (by_case (count_below n (λ j. q (a + j))) (q (a + n))))
  where
    by_case : (m : ℕ) (b : Bool) → (not (m == 0) || b) ≡ not ((m + bit b) == 0)
    by_case m true = rw (zero-more m) (all (not (m == 0)))
      where
        all : (c : Bool) → (c || true) ≡ true
        all true = refl
        all false = refl
    by_case m false = let same : m + 0 ≡ m = omega arith in rw same (none (not (m == 0)))
      where
        none : (c : Bool) → (c || false) ≡ c
        none true = refl
        none false = refl

not-not : (b : Bool) → not (not b) ≡ b
not-not true = refl
not-not false = refl

one-is : (n : ℕ) → ((n + 1) == 1) ≡ (n == 0)
one-is n = elim (cases_eq n 0) [
  | inl e ↦ rw e refl
  | inr ne ↦ rw (ne_eqb n 0 ne, ne_eqb (n + 1) 1 (λ e. ne (omega arith))) refl
]

module _ (P : Timetable) (s : ShiftSpan) (r k m : ℕ) (there : has_shift s r k ≡ true) where
  -- the nurse's shifts but for this one
  abbrev others : ℕ
  others = count_below s.len (λ j. not ((s.from + j) == k) && is_number (care_of P s.room.0 (s.from + j)) m)

  others-met : has_other P s k m ≡ not (others == 0)
  others-met = any-counted (λ j. not (j == k) && is_number (care_of P s.room.0 j) m) s.from s.len

  others-split : nursed_in P (Some s) m ≡ others + bit (is_number (care_of P r k) m)
  others-split =
      let inside = shift-of s r k there in
      let low = inside.low in
      let high = inside.high in
      let place : s.from + (k - s.from) ≡ k = omega arith in
      let below : k - s.from < s.len = omega arith in
      let change = sum_below-but s.len (k - s.from) (λ j. bit (is_number (care_of P s.room.0 (s.from + j)) m))
      (λ j. bit (not ((s.from + j) == k) && is_number (care_of P s.room.0 (s.from + j)) m)) below
      (λ j jh ne. rw (ne_eqb (s.from + j) k (λ e. ne (omega arith))) refl) in
      let own : bit (is_number (care_of P s.room.0 (s.from + (k - s.from))) m) ≡ bit (is_number (care_of P r k) m) = rw (place, inside.room) refl in
      let none : bit (not ((s.from + (k - s.from)) == k) && is_number (care_of P s.room.0 (s.from + (k - s.from))) m) ≡ 0 = rw (place, eq-eqb k k refl) refl in
      omega (arith, change, own, none)

  fresh-is : bit (has_shift s r k && not (has_other P s k m)) ≡ bit (others == 0)
  fresh-is = rw (there, others-met) (ap bit (not-not (others == 0)))

  -- who hasn't the shift is met anew where the count is 0
  come-count : bit (is_number (care_of P r k) m) ≡ 0 → bit (nursed_in P (Some s) m == 0) ≡ bit (has_shift s r k && not (has_other P s k m))
  come-count other =
      let same : nursed_in P (Some s) m ≡ others = omega (arith, others-split, other) in
      ap (λ n. bit (n == 0)) same ∙ sym fresh-is

  -- who has it is met there alone where the count is 1
  gone-count : bit (is_number (care_of P r k) m) ≡ 1 → bit (nursed_in P (Some s) m == 1) ≡ bit (has_shift s r k && not (has_other P s k m))
  gone-count own =
      let same : nursed_in P (Some s) m ≡ others + 1 = omega (arith, others-split, own) in
      ap (λ n. bit (n == 1)) same ∙ (ap bit (one-is others) ∙ sym fresh-is)

other-bit : (o : Option ℕ) (m : ℕ) → o ≢ Some m → bit (is_number o m) ≡ 0
other-bit None m ne = refl
other-bit (Some n) m ne = rw (ne_eqb n m (λ e. ne (ap Some e))) refl

-- ---- sums over those who are present

module _ (I : Draft) (P : Timetable) (r : RoomNo) (k : Shift) (counts : List ℕ) (known : AreCounts I P counts) (shift : k.0 < shift_count I) where
  module _ (x : ℕ) (person : x < person_count I) (there : is_present I P r.0 (day_of k.0) x ≡ true) where
    -- without a nurse there is none whom the person sees anew
    none-newly : 0 ≡ newly_seen_of I P r.0 k.0 None x
    none-newly = by_case (admission_of I P x) (person_of I x).length_of_stay
      where
        by_case : (o : Option Admission) (n : ℕ) → 0 ≡ newly_seen P (shift_span_in I o n) r.0 k.0 None
        by_case None n = refl
        by_case (Some a) n = refl

    come-one : (new : Option NurseNo) → IfSome new (λ a. a.0 < nurse_count I) → care_of P r.0 k.0 ≢ number_of_nurse new
        → has_just I counts 0 new x ≡ newly_seen_of I P r.0 k.0 new x
    come-one None nurse other = none-newly
    come-one (Some a) nurse other = rw (known.each x a.0 person nurse) (by_case (admission_of I P x) (person_of I x).length_of_stay there)
      where
        by_case : (o : Option Admission) (n : ℕ) → is_in o n r.0 (day_of k.0) ≡ true → bit (nursed_in P (shift_span_in I o n) a.0 == 0) ≡ newly_seen P (shift_span_in I o n) r.0 k.0 (Some a)
        by_case None n h = absurd (let no : false ≡ true = h in cc)
        by_case (Some b) n h = come-count P (shift_span_of I b n) r.0 k.0 a.0 (there-shift I b n r.0 k.0 shift ∙ h) (other-bit (care_of P r.0 k.0) a.0 other)

    gone-one : (old : Option NurseNo) → IfSome old (λ a. a.0 < nurse_count I) → care_of P r.0 k.0 ≡ number_of_nurse old
        → has_just I counts 1 old x ≡ newly_seen_of I P r.0 k.0 old x
    gone-one None nurse own = none-newly
    gone-one (Some a) nurse own = rw (known.each x a.0 person nurse) (by_case (admission_of I P x) (person_of I x).length_of_stay there)
      where
        mine : bit (is_number (care_of P r.0 k.0) a.0) ≡ 1
        mine = rw (own, eq-eqb a.0 a.0 refl) refl

        by_case : (o : Option Admission) (n : ℕ) → is_in o n r.0 (day_of k.0) ≡ true → bit (nursed_in P (shift_span_in I o n) a.0 == 1) ≡ newly_seen P (shift_span_in I o n) r.0 k.0 (Some a)
        by_case None n h = absurd (let no : false ≡ true = h in cc)
        by_case (Some b) n h = gone-count P (shift_span_of I b n) r.0 k.0 a.0 (there-shift I b n r.0 k.0 shift ∙ h) mine

  sum-there : (f g : ℕ → ℕ) → ((x : ℕ) → x < person_count I → is_present I P r.0 (day_of k.0) x ≡ true → f x ≡ g x)
      → sum_by f (present I P r.0 (day_of k.0)) ≡ sum_by g (present I P r.0 (day_of k.0))
  unfolding present
  sum-there f g e =
      let there = is_present I P r.0 (day_of k.0) in
      sum_by-which_below f (person_count I) (is_present I P r.0 (day_of k.0))
      ∙ (sum_below-same (person_count I) (λ x. if is_present I P r.0 (day_of k.0) x then f x else 0) (λ x. if is_present I P r.0 (day_of k.0) x then g x else 0)
      (λ x h. elim (cases_Bool (is_present I P r.0 (day_of k.0) x)) [
        | inl here ↦ rw here (e x h here)
        | inr away ↦ rw away refl
      ])
      ∙ sym (sum_by-which_below g (person_count I) (is_present I P r.0 (day_of k.0))))

  -- those whose count of the new nurse is 0 meet that nurse anew
  pub come-told : (new : Option NurseNo) → IfSome new (λ a. a.0 < nurse_count I) → care_of P r.0 k.0 ≢ number_of_nurse new
      → sum_by (has_just I counts 0 new) (present I P r.0 (day_of k.0)) ≡ sum_by (newly_seen_of I P r.0 k.0 new) (present I P r.0 (day_of k.0))
  come-told new nurse other = sum-there (has_just I counts 0 new) (newly_seen_of I P r.0 k.0 new) (λ x h here. come-one x h here new nurse other)

  -- those whose count of the old nurse is 1 no longer meet that nurse
  pub gone-told : (old : Option NurseNo) → IfSome old (λ a. a.0 < nurse_count I) → old ≡ choice_of P r.0 k.0
      → sum_by (has_just I counts 1 old) (present I P r.0 (day_of k.0)) ≡ sum_by (newly_seen_of I P r.0 k.0 (choice_of P r.0 k.0)) (present I P r.0 (day_of k.0))
  gone-told old nurse is =
      let own : care_of P r.0 k.0 ≡ number_of_nurse old = ap number_of_nurse (sym is) in
      sum-there (has_just I counts 1 old) (newly_seen_of I P r.0 k.0 old) (λ x h here. gone-one x h here old nurse own)
      ∙ ap (λ o. sum_by (newly_seen_of I P r.0 k.0 o) (present I P r.0 (day_of k.0))) is

-- ---- the room's shift

off-is : (I : Draft) (Q : Timetable) (r : RoomNo) (k : Shift) → off_in I Q r k ≡ bit (not_working I k.0 (care_of Q r.0 k.0))
unfolding part_of content_of
off-is I Q r k = refl

module _ (I : Draft) (P : Timetable) (r : RoomNo) (k : Shift) (new : Option NurseNo) (plan : IsPlanOf I P) (room : r.0 < room_count I) (shift : k.0 < shift_count I) where
  abbrev chosen : Timetable
  chosen = put (SetCare r k new) P

  care-new : care_of chosen r.0 k.0 ≡ number_of_nurse new
  care-new = care_of-same I P r k new plan room shift

  pub off-told : (old : Option NurseNo) (come gone : ℕ) → old ≡ choice_of P r.0 k.0 → come ≡ bit (not_working I k.0 (number_of_nurse new)) → gone ≡ bit (not_working I k.0 (number_of_nurse old))
      → pos come -ℤ pos gone ≡ increase_by_choice P r k new (λ Q. off_in I Q r k)
  off-told old come gone is a b =
      let after = off-is I chosen r k ∙ ap (λ n. bit (not_working I k.0 n)) care-new in
      let before = off-is I P r k ∙ ap (λ o. bit (not_working I k.0 (number_of_nurse o))) (sym is) in
      apart-same come gone (off_in I chosen r k) (off_in I P r k) (omega (arith, a, b, after, before))

  present-same : present I chosen r.0 (day_of k.0) ≡ present I P r.0 (day_of k.0)
  unfolding present admission_of
  present-same = refl

  skills-same : (xs : List ℕ) → map (skill_of I chosen k.0) xs ≡ map (skill_of I P k.0) xs
  unfolding entry_of admission_of
  skills-same xs = refl

  module _ (here : List LinksState) (day : LinksState) (list : IsRoomList I P here day r.0 k.0) where
    alike : AreAlike (list_of day r.0) (present I P r.0 (day_of k.0))
    alike = list-alike I P here day r.0 k.0 list

    pub uncovered-told : (old : Option NurseNo) (come gone : ℕ) → old ≡ choice_of P r.0 k.0
        → come ≡ bit (is_none (number_of_nurse new) && not (is_empty (list_of day r.0))) → gone ≡ bit (is_none (number_of_nurse old) && not (is_empty (list_of day r.0)))
        → pos come -ℤ pos gone ≡ increase_by_choice P r k new (λ Q. uncovered_in I Q r k)
    uncovered-told old come gone is a b =
        let empties = alike-empty (list_of day r.0) (present I P r.0 (day_of k.0)) alike in
        let after : uncovered_in I chosen r k ≡ bit (is_none (number_of_nurse new) && not (is_empty (list_of day r.0))) =
        uncovered-is I chosen r k ∙ rw (care-new, present-same, empties) refl in
        let before : uncovered_in I P r k ≡ bit (is_none (number_of_nurse old) && not (is_empty (list_of day r.0))) =
        uncovered-is I P r k ∙ rw (is, empties) refl in
        apart-same come gone (uncovered_in I chosen r k) (uncovered_in I P r k) (omega (arith, a, b, after, before))

    missing-sum : (n : Option NurseNo)
        → skill_missing I (number_of_nurse n) (map (skill_of I P k.0) (list_of day r.0)) ≡ skill_missing I (number_of_nurse n) (map (skill_of I P k.0) (present I P r.0 (day_of k.0)))
    missing-sum n = alike-missing I (number_of_nurse n) (skill_of I P k.0) (list_of day r.0) (present I P r.0 (day_of k.0)) alike

    pub missing-told : (old : Option NurseNo) (come gone : ℕ) → old ≡ choice_of P r.0 k.0
        → come ≡ skill_missing I (number_of_nurse new) (map (skill_of I P k.0) (list_of day r.0))
        → gone ≡ skill_missing I (number_of_nurse old) (map (skill_of I P k.0) (list_of day r.0))
        → pos come -ℤ pos gone ≡ increase_by_choice P r k new (λ Q. missing_in I Q r k)
    missing-told old come gone is a b =
        let after : missing_in I chosen r k ≡ skill_missing I (number_of_nurse new) (map (skill_of I P k.0) (present I P r.0 (day_of k.0))) =
        missing-is I chosen r k ∙ rw (care-new, present-same, skills-same (present I P r.0 (day_of k.0))) refl in
        let before : missing_in I P r k ≡ skill_missing I (number_of_nurse old) (map (skill_of I P k.0) (present I P r.0 (day_of k.0))) =
        missing-is I P r k ∙ rw is refl in
        apart-same come gone (missing_in I chosen r k) (missing_in I P r k) (omega (arith, a, b, after, before, missing-sum new, missing-sum old))
