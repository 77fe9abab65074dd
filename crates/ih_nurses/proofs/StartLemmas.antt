-- The empty timetable's lists and loads.
use Rattle.std.proofs.Common.{◌≡◌, ℕ, ◌+◌, ◌-◌, ◌*◌, ◌<◌, refl, ap, arith, map, sym, ◌∙◌, Bool, true, false, inl, inr, List, [], ◌∷◌, ◌++◌, replicate, Option, Some, None}
use Rattle.std.specs.Prelude.{◌||◌, ◌&&◌, ◌==◌, nat_lt, slice_get}
use Rattle.std.proofs.lemmas.Bool.{cases_eq, cases_lt, eq-eqb, ne_eqb, lt-ltb, le-ltb, and_right}
use Rattle.std.proofs.lemmas.List.{get_or-replicate}
use Rattle.std.proofs.Math.ListN.{length-replicate}
use Rattle.ih_tables.specs.declared.drafts.Draft.{Draft}
use Rattle.ih_tables.specs.declared.drafts.Occupant.{Occupant}
use Rattle.ih_tables.specs.Sizes.{patient_count, person_count, room_count, nurse_count, shift_count}
use Rattle.ih_links.specs.Lists.{LinksState}
use Rattle.ih_links.specs.Days.{empty_lists}
use Rattle.ih_links.proofs.EmptyDays.{empty-day, empty-list}
use Rattle.ih_links.proofs.Ties.{or-false}
use Rattle.ih_plan.specs.Timetable.{empty, care_of}
use Rattle.ih_plan.specs.Presence.{Admission, admission_of, covers, end_from, in_span, is_present}
use Rattle.ih_plan.specs.Persons.{person_of}
use Rattle.ih_plan.specs.Costs.{load_of, is_number}
use Rattle.ih_plan.specs.Sums.{bit}
use Rattle.ih_tables.specs.Works.{max_load}
use Rattle.std.specs.List.{range_with_len}
use Rattle.std.proofs.lemmas.Nat.{div-mul-add, mod-mul-add}
use Rattle.std.proofs.lemmas.List.FromFn.{map-range_with_len_more, get_or-map-range_with_len, length-map-range_with_len}
use Rattle.ih_plan.proofs.SumLemmas.{sum_below-same}
use Rattle.ih_plan.proofs.SumBounds.{sum_below-none}
use Rattle.ih_plan.proofs.Loads.{nurse_load}
use Rattle.ih_plan.proofs.Spans.{span-covers}
use Rattle.ih_plan.proofs.Whereabouts.{no-stay, no-nurse, nowhere, occupant-there, below-next}
use Rattle.ih_nurses.specs.Here.{is_here, AreSized, AreFilled}
use Rattle.ih_nurses.specs.declared.loads.NurseLoad.{NurseLoad}
use Rattle.ih_nurses.specs.Loads.{AreLoads, entry_at, free_load, most_of}
use Rattle.ih_nurses.specs.Counts.{AreCounts, count_of, nursed_in}
use Rattle.ih_nurses.specs.ShiftSpans.{shift_span_in}
use Rattle.ih_nurses.proofs.CountSteps.{count-inside}
use Rattle.ih_tables.proofs.LoadLemmas.{load_inside}

-- ---- loads

pub no-load : (I : Draft) (n k : ℕ) → load_of I (empty I) n k ≡ 0
unfolding load_of
no-load I n k = sum_below-same (room_count I) (nurse_load I (empty I) n k) (λ r. 0) (λ r h. rw (no-nurse I r k) refl) ∙ sum_below-none (room_count I)

pub loads-more : (I : Draft) (i : ℕ) (loads : List NurseLoad) → loads ≡ map (free_load I) (range_with_len 0 i) → loads ++ free_load I i ∷ [] ≡ map (free_load I) (range_with_len 0 (i + 1))
loads-more I i loads so_far = rw so_far (sym (map-range_with_len_more (free_load I) 0 i i (omega arith)))

free-at : (I : Draft) (loads : List NurseLoad) → loads ≡ map (free_load I) (range_with_len 0 (nurse_count I * shift_count I)) → (n k : ℕ) → n < nurse_count I → k < shift_count I
    → entry_at I loads n k ≡ record { work = 0; most = most_of (max_load I n k) }
free-at I loads e n k nh kh =
    let s = shift_count I in
    let there = get_or-map-range_with_len (free_load I) 0 (nurse_count I * s) (n * s + k) (n * s + k) (record { work = 0; most = 0 }) (load_inside I n k nh kh) (omega arith) in
    rw e (rw (div-mul-add n s k kh, mod-mul-add n s k kh) at there)

pub loads-none : (I : Draft) (loads : List NurseLoad) → loads ≡ map (free_load I) (range_with_len 0 (nurse_count I * shift_count I)) → AreLoads I (empty I) loads
loads-none I loads e = record {
  table = record {
    len = rw e (length-map-range_with_len (free_load I) 0 (nurse_count I * shift_count I));
    most = λ n k nh kh. ap (λ (l : NurseLoad). l.most) (free-at I loads e n k nh kh);
  };
  each = λ n k nh kh. ap (λ (l : NurseLoad). l.work) (free-at I loads e n k nh kh) ∙ sym (no-load I n k);
}

-- ---- counts

no-count : (I : Draft) (x n : ℕ) → count_of I (empty I) x n ≡ 0
no-count I x n = by_case (admission_of I (empty I) x) (person_of I x).length_of_stay
  where
    by_case : (o : Option Admission) (days : ℕ) → nursed_in (empty I) (shift_span_in I o days) n ≡ 0
    by_case None days = refl
    by_case (Some a) days =
        sum_below-same (3 * (end_from I a.day days - a.day)) (λ j. bit (is_number (care_of (empty I) a.room (3 * a.day + j)) n)) (λ j. 0)
        (λ j h. ap (λ o. bit (is_number o n)) (no-nurse I a.room (3 * a.day + j)))
        ∙ sum_below-none (3 * (end_from I a.day days - a.day))

pub counts-none : (I : Draft) (counts : List ℕ) → counts ≡ replicate (person_count I * nurse_count I) 0 → AreCounts I (empty I) counts
counts-none I counts e = record {
  len = rw e (length-replicate (person_count I * nurse_count I) 0);
  each = λ x n xh nh. rw e (get_or-replicate (person_count I * nurse_count I) (x * nurse_count I + n) 0 0 (count-inside I x n xh nh) ∙ sym (no-count I x n));
}

-- ---- the occupants, one after the other

-- nobody is in any list of days that are empty
pub filled-none : (I : Draft) (here : List LinksState) → here ≡ replicate I.days (empty_lists (room_count I) (person_count I)) → AreFilled I here 0
filled-none I here e = record {
  sized = record {
    days = rw e (length-replicate I.days (empty_lists (room_count I) (person_count I)));
    rooms = λ d h. rw (e, empty-day (room_count I) (person_count I) I.days d h) (length-replicate (room_count I) []);
    persons = λ d h. rw (e, empty-day (room_count I) (person_count I) I.days d h) refl;
  };
  each = λ r d x rh dh xh. rw (e, empty-list (room_count I) (person_count I) I.days d r) (elim (cases_lt x (patient_count I)) [
    | inl patient ↦ rw (nowhere I (empty I) x r d patient (no-stay I x)) (sym (and_right (nat_lt x (patient_count I + 0)) false refl))
    | inr past ↦ rw (le-ltb x (patient_count I + 0) (omega arith)) refl
  ]);
}

module _ (I : Draft) (k : ℕ) (o : Occupant) (is : slice_get I.occupants k ≡ Some o) where
  -- listed before, or now
  abbrev both : ℕ → ℕ → ℕ → Bool
  both r d x = ((nat_lt x (patient_count I + k) && is_present I (empty I) r d x) || ((o.room_id.0 == r) && (in_span 0 (end_from I 0 o.length_of_stay) d && ((patient_count I + k) == x))))

  own : (r d : ℕ) → d < I.days → both r d (patient_count I + k) ≡ (nat_lt (patient_count I + k) (patient_count I + (k + 1)) && is_present I (empty I) r d (patient_count I + k))
  own r d dh =
      let before = le-ltb (patient_count I + k) (patient_count I + k) (omega arith) in
      let now = lt-ltb (patient_count I + k) (patient_count I + (k + 1)) (omega arith) in
      rw (before, now, eq-eqb (patient_count I + k) (patient_count I + k) refl, span-covers 0 o.length_of_stay I.days d dh, occupant-there I (empty I) r d k o is)
      (by_case (o.room_id.0 == r) (covers 0 o.length_of_stay d))
    where
      by_case : (b c : Bool) → (false || (b && (c && true))) ≡ (true && (b && c))
      by_case false c = refl
      by_case true false = refl
      by_case true true = refl

  other : (r d x : ℕ) → (x ≡ patient_count I + k → ⊥) → both r d x ≡ (nat_lt x (patient_count I + (k + 1)) && is_present I (empty I) r d x)
  other r d x ne =
      rw (ne_eqb (patient_count I + k) x (λ e. ne (sym e)), below-next (patient_count I) k x ne)
      (or-false (nat_lt x (patient_count I + k) && is_present I (empty I) r d x) ((o.room_id.0 == r) && (in_span 0 (end_from I 0 o.length_of_stay) d && false))
      (and_right (o.room_id.0 == r) (in_span 0 (end_from I 0 o.length_of_stay) d && false) (and_right (in_span 0 (end_from I 0 o.length_of_stay) d) false refl)))

  -- with the next occupant
  pub filled-more : (here new : List LinksState) → AreFilled I here k → AreSized I new
      → ((r d x : ℕ) → is_here new r d x ≡ (is_here here r d x || ((o.room_id.0 == r) && (in_span 0 (end_from I 0 o.length_of_stay) d && ((patient_count I + k) == x))))) → AreFilled I new (k + 1)
  filled-more here new filled sized each = record {
    sized = sized;
    each = λ r d x rh dh xh. each r d x ∙ rw (filled.each r d x rh dh xh) (elim (cases_eq x (patient_count I + k)) [
      | inl same ↦ rw same (own r d dh)
      | inr ne ↦ other r d x ne
    ]);
  }
