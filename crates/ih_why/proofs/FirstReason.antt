-- Which reason is found: one that holds, where the patient can't be admitted, and none else.
use Rattle.std.proofs.Common.{◌≡◌, ℕ, ◌+◌, ◌-◌, ◌<◌, ◌≤◌, refl, sym, ◌∙◌, arith, Bool, true, false, [], ◌∷◌, cond, Option, Some, None}
use Rattle.std.specs.Prelude.{◌&&◌, min, nat_lt, not, is_some}
use Rattle.std.specs.List.{list_all, list_any, range_with_len}
use Rattle.std.specs.Option.{option_map_or}
use Rattle.std.proofs.lemmas.Bool.{and_from, and_parts, both_ways, cond-true, false_from_ne_true, leb-true, ltb-true, not-false, not-true}
use Rattle.ih_tables.specs.declared.drafts.Draft.{Draft}
use Rattle.ih_tables.specs.declared.drafts.Patient.{Patient}
use Rattle.ih_tables.specs.Sizes.{room_count}
use Rattle.ih_plan.specs.Presence.{covers, end_from}
use Rattle.ih_plan.proofs.Spans.{span-inside}
use Rattle.ih_why.specs.declared.reasons.Reason.{Reason}
use Rattle.ih_why.specs.declared.reasons.Reason.TheVariants.{DueEarly, ReleasedLate, NoRoom, NoTheatre, NoSurgeon, DayTaken, RoomsTaken, NoDay}
use Rattle.ih_why.specs.Beds.{has_bed}
use Rattle.ih_why.specs.Admissions.{first_reason, has_admission, has_place, has_room, has_surgeon, has_theatre, holds, is_due_early, is_free, is_needed, is_taken, may_begin, reason_of, rooms, stay_days, suits, taken_day, window, window_end}
use Rattle.ih_why.proofs.ListTests.{range-each, any-range, find-below, find-none, find-passes, range-where}

-- ---- the reason that is found

pub reason-holds : (I : Draft) (a : Patient) (why : Reason) → reason_of I a ≡ Some why → (a.mandatory ≡ true) × (holds I a why ≡ true)
unfolding reason_of first_reason
reason-holds I a why e = by_case a.mandatory refl e
  where
    by_case : (b : Bool) → a.mandatory ≡ b → cond b (first_reason I a) None ≡ Some why → (a.mandatory ≡ true) × (holds I a why ≡ true)
    by_case true must e = (must, find-passes (holds I a) (DueEarly ∷ ReleasedLate ∷ NoRoom ∷ NoTheatre ∷ NoSurgeon ∷ DayTaken ∷ RoomsTaken ∷ NoDay ∷ []) why e)
    by_case false must e = absurd (let no : None ≡ Some why = e in cc)

must-have : (I : Draft) (a : Patient) → a.mandatory ≡ true → reason_of I a ≡ first_reason I a
unfolding reason_of
must-have I a must = cond-true a.mandatory (first_reason I a) None must

reason-none : (I : Draft) (a : Patient) → first_reason I a ≡ None → has_admission I a ≡ true
unfolding first_reason
reason-none I a none =
    not-false (has_admission I a)
    (find-none (holds I a) (DueEarly ∷ ReleasedLate ∷ NoRoom ∷ NoTheatre ∷ NoSurgeon ∷ DayTaken ∷ RoomsTaken ∷ NoDay ∷ []) 7 NoDay none refl)

pub has-reason : (I : Draft) (a : Patient) → a.mandatory ≡ true → has_admission I a ≡ false → (why : Reason) × (reason_of I a ≡ Some why)
has-reason I a must cannot = by_case (reason_of I a) refl
  where
    by_case : (o : Option Reason) → reason_of I a ≡ o → (why : Reason) × (reason_of I a ≡ Some why)
    by_case None e = absurd (both_ways (has_admission I a) cannot (reason-none I a (sym (must-have I a must) ∙ e)))
    by_case (Some why) e = (why, e)

-- a day that each stay in the window has, and on which the rooms are taken
pub day-taken : (I : Draft) (a : Patient) → is_some (taken_day I a) ≡ true → (d : ℕ) × (d < I.days) × (is_needed I a d ≡ true) × (is_taken I a d ≡ true)
unfolding taken_day
day-taken I a h = by_case (taken_day I a) refl h
  where
    by_case : (o : Option ℕ) → taken_day I a ≡ o → is_some o ≡ true → (d : ℕ) × (d < I.days) × (is_needed I a d ≡ true) × (is_taken I a d ≡ true)
    by_case None e h = absurd (let no : false ≡ true = h in cc)
    by_case (Some d) e h =
        let passes = and_parts (is_needed I a d) (is_taken I a d) (find-passes (λ d. is_needed I a d && is_taken I a d) (range_with_len 0 I.days) d e) in
        let below = find-below (λ d. is_needed I a d && is_taken I a d) I.days 0 d e in
        (d, omega (arith, below), passes.0, passes.1)

-- ---- where a reason holds there is no admission

denied : (b : Bool) → b ≡ true → not b ≡ true → ⊥
denied b so denies = both_ways b (not-true b denies) so

-- the window ends by the horizon, and after the due day
ends-by : (I : Draft) (a : Patient) → window_end I a ≤ I.days
ends-by I a = by_due a.surgery_due_day
  where
    by_due : (due : Option ℕ) → option_map_or (λ (d : ℕ). min (d + 1) I.days) due I.days ≤ I.days
    by_due None = omega arith
    by_due (Some due) = omega arith

ends-early : (I : Draft) (a : Patient) → is_due_early a ≡ true → window_end I a ≤ a.surgery_release_day
ends-early I a h = by_due a.surgery_due_day h
  where
    by_due : (due : Option ℕ) → option_map_or (λ (d : ℕ). nat_lt d a.surgery_release_day) due false ≡ true → option_map_or (λ (d : ℕ). min (d + 1) I.days) due I.days ≤ a.surgery_release_day
    by_due None h = absurd (let no : false ≡ true = h in cc)
    by_due (Some due) h = omega (arith, ltb-true due a.surgery_release_day h)

module _ (I : Draft) (a : Patient) (d : ℕ) (low : a.surgery_release_day ≤ d) (high : d < a.surgery_release_day + (window_end I a - a.surgery_release_day)) (begins : may_begin I a d ≡ true) where
  theatre-and-surgeon : (has_theatre I a d ≡ true) × (has_surgeon I a d ≡ true)
  theatre-and-surgeon = and_parts (has_theatre I a d) (has_surgeon I a d) (and_parts (has_theatre I a d && has_surgeon I a d) (has_room I a d) begins).0

  some-room : has_room I a d ≡ true
  some-room = (and_parts (has_theatre I a d && has_surgeon I a d) (has_room I a d) begins).1

  on-window : (f : ℕ → Bool) → f d ≡ true → list_any f (window I a) ≡ true
  on-window f h = any-range f (window_end I a - a.surgery_release_day) a.surgery_release_day d low high h

  room-suits : list_any (suits a) (rooms I) ≡ true
  room-suits =
      let found = range-where (is_free I a d) (room_count I) 0 some-room in
      let fine = and_parts (suits a found.0) (list_all (has_bed I found.0 a.gender) (stay_days I a d)) found.3 in
      any-range (suits a) (room_count I) 0 found.0 found.1 found.2 fine.0

  -- on a day that each stay in the window has there is a room
  day-open : (e : ℕ) → e < I.days → is_needed I a e ≡ true → list_any (has_place I a e) (rooms I) ≡ true
  day-open e inside needed =
      let covered = range-each (λ b. covers b a.length_of_stay e) (window_end I a - a.surgery_release_day) a.surgery_release_day d needed low high in
      let span = span-inside d (d + a.length_of_stay) e covered in
      let found = range-where (is_free I a d) (room_count I) 0 some-room in
      let fine = and_parts (suits a found.0) (list_all (has_bed I found.0 a.gender) (stay_days I a d)) found.3 in
      let bed = range-each (has_bed I found.0 a.gender) (end_from I d a.length_of_stay - d) d e fine.1 span.0 (omega (arith, span.0, span.1)) in
      any-range (has_place I a e) (room_count I) 0 found.0 found.1 found.2
      (and_from (suits a found.0) (has_bed I found.0 a.gender e) fine.0 bed)

  no-reason : (why : Reason) → holds I a why ≡ true → ⊥
  no-reason DueEarly h = omega (arith, ends-early I a h, low, high)
  no-reason ReleasedLate h = omega (arith, leb-true I.days a.surgery_release_day h, ends-by I a, low, high)
  no-reason NoRoom h = denied _ room-suits h
  no-reason NoTheatre h = denied _ (on-window (has_theatre I a) theatre-and-surgeon.0) h
  no-reason NoSurgeon h = denied _ (on-window (has_surgeon I a) theatre-and-surgeon.1) h
  no-reason DayTaken h = let taken = day-taken I a h in denied _ (day-open taken.0 taken.1 taken.2) taken.3
  no-reason RoomsTaken h = denied _ (on-window (has_room I a) some-room) h
  no-reason NoDay h = denied _ (on-window (may_begin I a) begins) h

pub no-admission : (I : Draft) (a : Patient) (why : Reason) → holds I a why ≡ true → has_admission I a ≡ false
no-admission I a why h = false_from_ne_true (has_admission I a) (λ can.
    let found = range-where (may_begin I a) (window_end I a - a.surgery_release_day) a.surgery_release_day can in
    no-reason I a found.0 found.1 found.2 found.3 why h)
