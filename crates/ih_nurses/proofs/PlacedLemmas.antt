-- What a placement of a patient changes in a shift of its room, and in that of the room's nurse, number by number.
use Rattle.std.proofs.Common.{◌≡◌, ℕ, ◌+◌, ◌-◌, ◌*◌, ◌<◌, ◌≤◌, refl, arith, ap, sym, subst, ◌∙◌, Bool, true, false, map, Option, Some, None, pos}
use Rattle.std.specs.Prelude.{◌&&◌, ◌||◌, ◌-ℤ◌, not, is_none, slice_index}
use Rattle.std.proofs.lemmas.Bool.{eq-eqb}
use Rattle.std.proofs.lemmas.Int.{ints}
use Rattle.ih_tables.specs.declared.drafts.Draft.{Draft}
use Rattle.ih_tables.specs.declared.ids.PatientNo.{PatientNo}
use Rattle.ih_tables.specs.declared.ids.NurseNo.{NurseNo}
use Rattle.ih_tables.specs.declared.ids.RoomNo.{RoomNo}
use Rattle.ih_tables.specs.declared.ids.Shift.{Shift}
use Rattle.ih_tables.specs.Sizes.{patient_count}
use Rattle.ih_tables.specs.Works.{max_load}
use Rattle.ih_links.specs.Lists.{without}
use Rattle.ih_plan.specs.declared.moves.Placement.{Placement}
use Rattle.ih_plan.specs.declared.moves.Write.TheVariants.{SetStay}
use Rattle.ih_plan.specs.Timetable.{Timetable, IsPlanOf, IsPlacement, care_of, stay_of}
use Rattle.ih_plan.specs.Writes.{put}
use Rattle.ih_plan.specs.Persons.{person_of}
use Rattle.ih_plan.specs.Presence.{present, day_of, skill_of, entry_of, covers}
use Rattle.ih_plan.specs.Costs.{is_empty, skill_missing, skill_level, overload, load_of}
use Rattle.ih_plan.specs.Cells.{part_of, content_of}
use Rattle.ih_plan.specs.Sums.{bit}
use Rattle.ih_plan.proofs.Entries.{stay_of-same}
use Rattle.ih_plan.proofs.ListedBelow.{tagged-both}
use Rattle.ih_plan.proofs.Parts.{is_empty-tagged}
use Rattle.ih_nurses.specs.Loads.{load_of_stay}
use Rattle.ih_nurses.specs.Deltas.{uncovered_in, missing_in, overload_in, increase_by_placement}
use Rattle.ih_nurses.proofs.GivenLemmas.{load-goes, load-has}
use Rattle.ih_nurses.proofs.OwnLemmas.{is_housed, own_missing, else-put, occupied-own, missing-own}

-- ---- the numbers of the parts

pub uncovered-is : (I : Draft) (Q : Timetable) (r : RoomNo) (k : Shift) → uncovered_in I Q r k ≡ bit (is_none (care_of Q r.0 k.0) && not (is_empty (present I Q r.0 (day_of k.0))))
unfolding part_of content_of
uncovered-is I Q r k = ap (λ e. bit (is_none (care_of Q r.0 k.0) && not e)) (is_empty-tagged (λ x. entry_of I Q x k.0) (present I Q r.0 (day_of k.0)))

pub missing-is : (I : Draft) (Q : Timetable) (r : RoomNo) (k : Shift) → missing_in I Q r k ≡ skill_missing I (care_of Q r.0 k.0) (map (skill_of I Q k.0) (present I Q r.0 (day_of k.0)))
unfolding part_of content_of
missing-is I Q r k =
    ap (skill_missing I (care_of Q r.0 k.0)) (tagged-both (λ x at. slice_index (person_of I x).skill at) (λ x. entry_of I Q x k.0) (present I Q r.0 (day_of k.0)))

pub overload-is : (I : Draft) (Q : Timetable) (n : NurseNo) (k : Shift) → overload_in I Q n k ≡ overload (max_load I n.0 k.0) (load_of I Q n.0 k.0)
unfolding part_of content_of
overload-is I Q n k = refl

-- ---- small steps

-- an occupied room without a nurse is no more so with one person more
alone-bit : (none empty : Bool) → bit (none && empty) + bit (none && (false || not empty)) ≡ bit (none && (true || not empty))
alone-bit true true = refl
alone-bit true false = refl
alone-bit false empty = refl

own-none : (I : Draft) (p r k : ℕ) (n : Option ℕ) → own_missing I p None r k n ≡ 0
own-none I p r k None = refl
own-none I p r k (Some n) = refl

increases : (more with without : ℕ) → more + without ≡ with → pos more ≡ pos with -ℤ pos without
increases more with without e = omega (arith, ints, e)

-- more load is no less overload
pub overload-more : (most : Option ℕ) (load more : ℕ) → overload most load ≤ overload most (load + more)
overload-more None load more = omega arith
overload-more (Some m) load more = omega arith

some-placed : (B : Placement → Type 0) (at new : Placement) → Some at ≡ Some new → B at → B new
some-placed B at new e h = let same : at ≡ new = cc in subst B same h

-- a nurse's load without a stay and with one, as they are told from all of it, what goes and what comes
pub record IsLoadIncrease (I : Draft) (Q O : Timetable) (n : NurseNo) (k : Shift) (all gone come : ℕ) : Type 0 where
  pub enough : gone ≤ all
  pub out : all - gone ≡ load_of I O n.0 k.0
  pub with : all - gone + come ≡ load_of I Q n.0 k.0

-- so the overload increases
pub overload-increases : (I : Draft) (P : Timetable) (n : NurseNo) (k : Shift) (p : PatientNo) (at : Placement) (all gone come after before : ℕ)
    → IsLoadIncrease I (put (SetStay p (Some at)) P) (put (SetStay p None) P) n k all gone come
    → after ≡ overload (max_load I n.0 k.0) (all - gone + come) → before ≡ overload (max_load I n.0 k.0) (all - gone)
    → pos (after - before) ≡ increase_by_placement P p at (λ Q. overload_in I Q n k)
overload-increases I P n k p at all gone come after before increase a b =
    let most = max_load I n.0 k.0 in
    let with : Timetable = put (SetStay p (Some at)) P in
    let out : Timetable = put (SetStay p None) P in
    let more = overload-more most (all - gone) come in
    let more_is = overload-is I with n k ∙ ap (overload most) (sym increase.with) in
    let less_is = overload-is I out n k ∙ ap (overload most) (sym increase.out) in
    increases (after - before) (overload_in I with n k) (overload_in I out n k) (omega (arith, a, b, more, more_is, less_is))

-- ---- the increases

module _ (I : Draft) (P : Timetable) (k : Shift) (p : PatientNo) (at : Placement) (plan : IsPlanOf I P) (patient : p.0 < patient_count I)
    (counted : covers at.day.0 (person_of I p.0).length_of_stay (day_of k.0) ≡ true) where
  abbrev with : Timetable
  with = put (SetStay p (Some at)) P

  abbrev out : Timetable
  out = put (SetStay p None) P

  stays-with : stay_of with p.0 ≡ Some at
  stays-with = let sizes = plan.stays in stay_of-same P p (Some at) (omega arith)

  stays-out : stay_of out p.0 ≡ None
  stays-out = let sizes = plan.stays in stay_of-same P p None (omega arith)

  pub housed : is_housed I p.0 (Some at) at.room.0 k.0 ≡ true
  housed = rw (eq-eqb at.room.0 at.room.0 refl) counted

  -- a room without a nurse is uncovered more where nobody else is there
  pub uncovered-increases : (more : ℕ) → more ≡ bit (is_none (care_of P at.room.0 k.0) && is_empty (without p.0 (present I P at.room.0 (day_of k.0))))
      → pos more ≡ increase_by_placement P p at (λ Q. uncovered_in I Q at.room k)
  uncovered-increases more e =
      let none = is_none (care_of P at.room.0 k.0) in
      let empty = is_empty (without p.0 (present I P at.room.0 (day_of k.0))) in
      let after = rw (stays-with, housed) at (occupied-own (else-put I P p (Some at) patient) at.room.0 k.0) in
      let before = rw stays-out at (occupied-own (else-put I P p None patient) at.room.0 k.0) in
      let more_is : uncovered_in I with at.room k ≡ bit (none && (true || not empty)) = uncovered-is I with at.room k ∙ ap (λ b. bit (none && b)) after in
      let less_is : uncovered_in I out at.room k ≡ bit (none && (false || not empty)) = uncovered-is I out at.room k ∙ ap (λ b. bit (none && b)) before in
      increases more (uncovered_in I with at.room k) (uncovered_in I out at.room k) (omega (arith, e, more_is, less_is, alone-bit none empty))

  -- the missing skill increases by what the patient lacks
  pub missing-increases : (more : ℕ) → more ≡ own_missing I p.0 (Some at) at.room.0 k.0 (care_of P at.room.0 k.0)
      → pos more ≡ increase_by_placement P p at (λ Q. missing_in I Q at.room k)
  missing-increases more e =
      let n = care_of P at.room.0 k.0 in
      let after = rw stays-with at (missing-own (else-put I P p (Some at) patient) n at.room.0 k.0) in
      let before = rw stays-out at (missing-own (else-put I P p None patient) n at.room.0 k.0) in
      let none = own-none I p.0 at.room.0 k.0 n in
      increases more (missing_in I with at.room k) (missing_in I out at.room k)
      (omega (arith, e, missing-is I with at.room k, missing-is I out at.room k, after, before, none))

  -- what the patient lacks of a nurse
  pub own-lacks : (n : ℕ) → own_missing I p.0 (Some at) at.room.0 k.0 (Some n) ≡ slice_index (person_of I p.0).skill (k.0 - 3 * at.day.0) - skill_level I n
  own-lacks n = rw housed refl

  -- the nurse of the room has the workload of the patient
  pub given-whole : (n : ℕ) → care_of P at.room.0 k.0 ≡ Some n → load_of_stay I P p.0 (Some at) n k.0 ≡ slice_index (person_of I p.0).workload (k.0 - 3 * at.day.0)
  given-whole n nurse = rw (nurse, eq-eqb n n refl, counted) refl

  -- the load of the room's nurse increases by the patient's workload
  pub load-increases : IsPlacement I at → (n : NurseNo) → care_of P at.room.0 k.0 ≡ Some n.0 → (all gone come : ℕ) → all ≡ load_of I P n.0 k.0 → gone ≡ load_of_stay I P p.0 (stay_of P p.0) n.0 k.0
      → come ≡ slice_index (person_of I p.0).workload (k.0 - 3 * at.day.0)
      → IsLoadIncrease I (put (SetStay p (Some at)) P) (put (SetStay p None) P) n k all gone come
  load-increases placed n nurse all gone come a g c =
      let has = load-has I P p plan patient n.0 k.0 in
      let goes = load-goes I P p None plan patient (λ at e. absurd (let no : None ≡ Some at = e in cc)) n.0 k.0 in
      let comes = load-goes I P p (Some at) plan patient (λ new e. some-placed (IsPlacement I) at new e placed) n.0 k.0 in
      let whole = given-whole n.0 nurse in
      record {
        enough = omega (arith, a, g, has);
        out = omega (arith, a, g, has, goes);
        with = omega (arith, a, g, c, has, comes, whole);
      }
