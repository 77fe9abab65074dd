-- A mandatory patient of a feasible timetable is admitted: so there is a day of the window with a theatre, the surgeon
-- and a room.
use Rattle.std.proofs.Common.{◌≡◌, ℕ, ◌+◌, ◌-◌, ◌<◌, ◌≤◌, refl, ap, ◌∙◌, arith, Bool, true, false, Option, Some, None}
use Rattle.std.specs.Prelude.{◌==◌, ◌&&◌, min, nat_le, nat_lt, not, slice_get, slice_index}
use Rattle.std.specs.List.{list_all, list_any}
use Rattle.std.specs.Option.{option_map_or}
use Rattle.std.proofs.lemmas.Bool.{and_from, both_ways, eq-eqb, le-leb, leb-true, lt-ltb, ltb-true, not-true, not_from_false}
use Rattle.ih_tables.specs.declared.drafts.Draft.{Draft}
use Rattle.ih_tables.specs.declared.drafts.Patient.{Patient}
use Rattle.ih_tables.specs.declared.drafts.Theatre.{Theatre}
use Rattle.ih_tables.specs.Sizes.{patient_count, room_count}
use Rattle.ih_tables.specs.Valid.{IsPatient, IsValid}
use Rattle.ih_plan.specs.declared.moves.Placement.{Placement}
use Rattle.ih_plan.specs.Costs.{capacity_of, surgeon_maximum, theatre_availability}
use Rattle.ih_plan.specs.Persons.{person_of}
use Rattle.ih_plan.specs.Presence.{covers, end_from, is_present, present}
use Rattle.ih_plan.specs.Timetable.{Timetable, stay_of}
use Rattle.ih_plan.proofs.ListedBelow.{has, has-which_below}
use Rattle.ih_plan.proofs.Overtime.{from-all}
use Rattle.ih_plan.proofs.Spans.{span-inside, span-true}
use Rattle.ih_plan.proofs.Whereabouts.{person-known, somewhere, stay-length}
use Rattle.ih_bound.specs.Bounds.{IsFeasible}
use Rattle.ih_bound.proofs.LeastPaid.{from-release, mandatory-stays, surgeon-long_enough, theatre-long_enough, until-due}
use Rattle.ih_bound.proofs.RulesKept.{room-fits}
use Rattle.ih_why.specs.declared.reasons.Reason.{Reason}
use Rattle.ih_why.specs.declared.reasons.Reason.TheVariants.{DueEarly, ReleasedLate, NoRoom, NoTheatre, NoSurgeon, DayTaken, RoomsTaken, NoDay}
use Rattle.ih_why.specs.Beds.{has_bed, has_other, occupants_in}
use Rattle.ih_why.specs.Admissions.{has_place, has_room, has_surgeon, has_theatre, holds, is_free, is_needed, may_begin, rooms, stay_days, suits, window, window_end}
use Rattle.ih_why.proofs.ListTests.{all-range, range-each, any-at, any-range, there-is}
use Rattle.ih_why.proofs.FirstReason.{day-taken}
use Rattle.ih_why.proofs.Lying.{none-other, one-beside, patient-gender, room-suits}

module _ (I : Draft) (valid : IsValid I) (P : Timetable) (feasible : IsFeasible I P) (p : ℕ) (a : Patient) (at : Placement)
    (known : p < patient_count I) (e : slice_get I.patients p ≡ Some a) (is : stay_of P p ≡ Some at) (must : a.mandatory ≡ true) where
  day-inside : at.day.0 < I.days
  day-inside = (feasible.plan.placed p at is).day

  room-inside : at.room.0 < room_count I
  room-inside = (feasible.plan.placed p at is).room

  released : a.surgery_release_day ≤ at.day.0
  released = from-release I P feasible p a at known e is

  not-past : at.day.0 < window_end I a
  not-past = by_due a.surgery_due_day refl
    where
      by_due : (due : Option ℕ) → a.surgery_due_day ≡ due → at.day.0 < option_map_or (λ (d : ℕ). min (d + 1) I.days) due I.days
      by_due None none = day-inside
      by_due (Some due) some = omega (arith, until-due I P feasible p a at known e is due must some, day-inside)

  -- what is so of the day of admission is so of a day of the window
  on-window : (f : ℕ → Bool) → f at.day.0 ≡ true → list_any f (window I a) ≡ true
  on-window f h = any-range f (window_end I a - a.surgery_release_day) a.surgery_release_day at.day.0 released (omega (arith, released, not-past)) h

  -- ---- theatre and surgeon

  theatre-open : has_theatre I a at.day.0 ≡ true
  theatre-open =
      let there = there-is I.operating_theaters at.theatre.0 (feasible.plan.placed p at is).theatre in
      let enough = theatre-long_enough I P feasible p a at known e is in
      let minutes : theatre_availability I at.theatre.0 at.day.0 ≡ slice_index there.0.availability at.day.0 =
      ap (λ (o : Option Theatre). option_map_or (λ (t : Theatre). slice_index t.availability at.day.0) o 0) there.1 in
      any-at (λ (t : Theatre). nat_le a.surgery_duration (slice_index t.availability at.day.0)) I.operating_theaters at.theatre.0 there.0 there.1
      (le-leb a.surgery_duration (slice_index there.0.availability at.day.0) (omega (arith, enough, minutes)))

  surgeon-free : has_surgeon I a at.day.0 ≡ true
  surgeon-free =
      let one = (from-all (IsPatient I) I.patients p a valid.each_patient e).surgeon in
      le-leb a.surgery_duration (surgeon_maximum I a.surgeon_id.0 at.day.0) (surgeon-long_enough I P feasible p a at known e is one)

  -- ---- the room

  room-fine : suits a at.room.0 ≡ true
  room-fine = not_from_false _ (rw is at (room-suits I P feasible p a known e))

  lies-there : (d : ℕ) → at.day.0 ≤ d → d < at.day.0 + a.length_of_stay → is_present I P at.room.0 d p ≡ true
  lies-there d low high =
      let len = stay-length I p a e in
      somewhere I P p at.room.0 d at known is
      ∙ and_from (at.room.0 == at.room.0) (covers at.day.0 (person_of I p).length_of_stay d) (eq-eqb at.room.0 at.room.0 refl)
      (span-true at.day.0 (at.day.0 + (person_of I p).length_of_stay) d low (omega (arith, len, high)))

  is-there : (d : ℕ) → at.day.0 ≤ d → d < at.day.0 + a.length_of_stay → has p (present I P at.room.0 d) ≡ true
  unfolding present
  is-there d low high =
      let there = lies-there d low high in
      has-which_below _ p (is_present I P at.room.0 d) (person-known I P at.room.0 d p there) ∙ there

  bed-there : (d : ℕ) → at.day.0 ≤ d → d < at.day.0 + a.length_of_stay → d < I.days → has_bed I at.room.0 a.gender d ≡ true
  bed-there d low high inside =
      let beside = one-beside I P at.room.0 d p known (lies-there d low high) in
      let fit = room-fits I P feasible at.room.0 d room-inside inside in
      let alone = none-other I P feasible at.room.0 d p a.gender room-inside inside (is-there d low high) (patient-gender I p a known e) in
      and_from (nat_lt (occupants_in I at.room.0 d) (capacity_of I at.room.0)) (not (has_other I at.room.0 d a.gender))
      (lt-ltb (occupants_in I at.room.0 d) (capacity_of I at.room.0) (omega (arith, beside, fit)))
      (not_from_false (has_other I at.room.0 d a.gender) alone)

  room-free : has_room I a at.day.0 ≡ true
  room-free =
      any-range (is_free I a at.day.0) (room_count I) 0 at.room.0 (omega arith) (omega (arith, room-inside))
      (and_from (suits a at.room.0) (list_all (has_bed I at.room.0 a.gender) (stay_days I a at.day.0)) room-fine
      (all-range (has_bed I at.room.0 a.gender) (end_from I at.day.0 a.length_of_stay - at.day.0) at.day.0
      (λ d low high. bed-there d low (omega (arith, high)) (omega (arith, high)))))

  all-there : may_begin I a at.day.0 ≡ true
  all-there =
      and_from (has_theatre I a at.day.0 && has_surgeon I a at.day.0) (has_room I a at.day.0)
      (and_from (has_theatre I a at.day.0) (has_surgeon I a at.day.0) theatre-open surgeon-free) room-free

  -- on a day that each stay in the window has there is a room
  day-open : (d : ℕ) → d < I.days → is_needed I a d ≡ true → list_any (has_place I a d) (rooms I) ≡ true
  day-open d inside needed =
      let covered = range-each (λ b. covers b a.length_of_stay d) (window_end I a - a.surgery_release_day) a.surgery_release_day at.day.0 needed released (omega (arith, released, not-past)) in
      let span = span-inside at.day.0 (at.day.0 + a.length_of_stay) d covered in
      any-range (has_place I a d) (room_count I) 0 at.room.0 (omega arith) (omega (arith, room-inside))
      (and_from (suits a at.room.0) (has_bed I at.room.0 a.gender d) room-fine (bed-there d span.0 span.1 inside))

  -- ---- no reason

  some-room : list_any (suits a) (rooms I) ≡ true
  some-room = any-range (suits a) (room_count I) 0 at.room.0 (omega arith) (omega (arith, room-inside)) room-fine

  denied : (b : Bool) → b ≡ true → not b ≡ true → ⊥
  denied b holds_so denies = both_ways b (not-true b denies) holds_so

  no-reason : (why : Reason) → holds I a why ≡ true → ⊥
  no-reason DueEarly h = by_due a.surgery_due_day refl h
    where
      by_due : (due : Option ℕ) → a.surgery_due_day ≡ due → option_map_or (λ (d : ℕ). nat_lt d a.surgery_release_day) due false ≡ true → ⊥
      by_due None none h = absurd (let no : false ≡ true = h in cc)
      by_due (Some due) some h = omega (arith, until-due I P feasible p a at known e is due must some, ltb-true due a.surgery_release_day h, released)
  no-reason ReleasedLate h = omega (arith, leb-true I.days a.surgery_release_day h, released, day-inside)
  no-reason NoRoom h = denied _ some-room h
  no-reason NoTheatre h = denied _ (on-window (has_theatre I a) theatre-open) h
  no-reason NoSurgeon h = denied _ (on-window (has_surgeon I a) surgeon-free) h
  no-reason DayTaken h = let taken = day-taken I a h in denied _ (day-open taken.0 taken.1 taken.2) taken.3
  no-reason RoomsTaken h = denied _ (on-window (has_room I a) room-free) h
  no-reason NoDay h = denied _ (on-window (may_begin I a) all-there) h

-- a reason holds of no mandatory patient of a feasible timetable
pub reason-true : (I : Draft) → IsValid I → (P : Timetable) → IsFeasible I P → (p : ℕ) (a : Patient) → p < patient_count I → slice_get I.patients p ≡ Some a → a.mandatory ≡ true
    → (why : Reason) → holds I a why ≡ true → ⊥
reason-true I valid P feasible p a known e must why h = by_stay (stay_of P p) refl
  where
    by_stay : (s : Option Placement) → stay_of P p ≡ s → ⊥
    by_stay None none = mandatory-stays I P p a feasible known e must none
    by_stay (Some at) is = no-reason I valid P feasible p a at known e is must why h
