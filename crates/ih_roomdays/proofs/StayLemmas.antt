-- A ledger stands for the timetable that a patient's coming or going makes.
use Rattle.std.proofs.Common.{◌≡◌, ℕ, ◌+◌, ◌<◌, ◌≤◌, refl, arith, sym, ap, subst, ◌∙◌, Bool, true, false, Option, Some, None, inl, inr}
use Rattle.std.specs.Prelude.{◌||◌, ◌&&◌, ◌==◌, not, nat_le, nat_lt, option_map}
use Rattle.std.proofs.lemmas.Bool.{cases_eq, eq-eqb, ne_eqb, lt-ltb, le-leb, and_from}
use Rattle.ih_tables.specs.declared.drafts.Draft.{Draft}
use Rattle.ih_tables.specs.declared.ids.PatientNo.{PatientNo}
use Rattle.ih_tables.specs.Sizes.{patient_count}
use Rattle.ih_plan.specs.declared.moves.Placement.{Placement}
use Rattle.ih_plan.specs.declared.moves.Write.TheVariants.{SetStay}
use Rattle.ih_plan.specs.Timetable.{Timetable, IsPlacement, IsPlanOf, stay_of}
use Rattle.ih_plan.specs.Writes.{put}
use Rattle.ih_plan.specs.Presence.{covers, end_of, is_in, is_present, placed_at}
use Rattle.ih_plan.specs.Persons.{person_of}
use Rattle.ih_plan.proofs.Entries.{admission-set}
use Rattle.ih_plan.proofs.PlanRanges.{put-plan, stay-plan}
use Rattle.ih_roomdays.specs.declared.room_lists.RoomLists.{RoomLists}
use Rattle.ih_roomdays.specs.RoomLists.{AreChanged, IsEntered, IsLeft, is_at, of_stay}
use Rattle.ih_roomdays.specs.Profiles.{AreProfiles}
use Rattle.ih_roomdays.specs.Ledger.{IsLedgerOf}
use Rattle.std.proofs.Math.Bool.{or-false, and-true, and-false}
use Rattle.ih_plan.proofs.Spans.{span-covers}
use Rattle.ih_plan.proofs.Whereabouts.{nowhere, somewhere, others-stay}

module _ (I : Draft) (P : Timetable) (old new : RoomLists) (p : PatientNo) (at : Placement) (stands : IsLedgerOf I P old) (known : p.0 < patient_count I) where
  set-stay : (s : Option Placement) (r d : ℕ) → is_present I (put (SetStay p s) P) r d p.0 ≡ is_in (option_map placed_at s) (person_of I p.0).length_of_stay r d
  set-stay s r d = rw (admission-set I P p s stands.plan known) refl

  changed-stands : {Q : Timetable} {now : ℕ → ℕ → ℕ → Bool → Bool} → AreChanged old new now → IsPlanOf I Q
      → ((r d x : ℕ) → d < I.days → now r d x (is_present I P r d x) ≡ is_present I Q r d x) → IsLedgerOf I Q new
  changed-stands {Q} {now} changed plan each = record {
    plan = plan;
    rows = changed.rows;
    rooms = changed.rooms ∙ stands.rooms;
    days = changed.days ∙ stands.days;
    persons = changed.persons ∙ stands.persons;
    profiles = subst (AreProfiles I) (sym changed.profiles) stands.profiles;
    each = λ r d x below. changed.each r d x (rw stands.days below) ∙ (ap (now r d x) (stands.each r d x below) ∙ each r d x below);
  }

  pub entered-stands : stay_of P p.0 ≡ None → IsPlacement I at → IsEntered old new at.room.0 p.0 at.day.0 (end_of I p.0 at) → IsLedgerOf I (put (SetStay p (Some at)) P) new
  entered-stands none fits entered = changed-stands entered (stay-plan I P p at stands.plan known fits) each
    where
      each : (r d x : ℕ) → d < I.days
          → (is_present I P r d x || ((at.room.0 == r) && of_stay p.0 at.day.0 (end_of I p.0 at) d x))
          ≡ is_present I (put (SetStay p (Some at)) P) r d x
      each r d x below = elim (cases_eq x p.0) [
        | inl own ↦ subst (λ y. (is_present I P r d y || ((at.room.0 == r) && of_stay p.0 at.day.0 (end_of I p.0 at) d y))
            ≡ is_present I (put (SetStay p (Some at)) P) r d y) (sym own)
            (rw (nowhere I P p.0 r d known none, eq-eqb p.0 p.0 refl, span-covers at.day.0 (person_of I p.0).length_of_stay I.days d below) (sym (set-stay (Some at) r d)))
        | inr other ↦ rw (ne_eqb x p.0 other, and-false (at.room.0 == r)) (or-false (is_present I P r d x) ∙ sym (others-stay I P p (Some at) r d x other))
      ]

  pub left-stands : stay_of P p.0 ≡ Some at → IsLeft old new p.0 at.day.0 (end_of I p.0 at) → IsLedgerOf I (put (SetStay p None) P) new
  left-stands stay gone =
      changed-stands gone (put-plan I P (SetStay p None) stands.plan (known, λ s e. absurd (let no : None ≡ Some s = e in cc))) each
    where
      away : (q b : Bool) → ((q && b) && not (true && b)) ≡ false
      away true true = refl
      away true false = refl
      away false b = refl

      each : (r d x : ℕ) → d < I.days → (is_present I P r d x && not (of_stay p.0 at.day.0 (end_of I p.0 at) d x)) ≡ is_present I (put (SetStay p None) P) r d x
      each r d x below = elim (cases_eq x p.0) [
        | inl own ↦ subst (λ y. (is_present I P r d y && not (of_stay p.0 at.day.0 (end_of I p.0 at) d y)) ≡ is_present I (put (SetStay p None) P) r d y) (sym own)
            (rw (somewhere I P p.0 r d at known stay, eq-eqb p.0 p.0 refl, span-covers at.day.0 (person_of I p.0).length_of_stay I.days d below)
            (away (at.room.0 == r) (covers at.day.0 (person_of I p.0).length_of_stay d)) ∙ sym (set-stay None r d))
        | inr other ↦ rw (ne_eqb x p.0 other) (and-true (is_present I P r d x) ∙ sym (others-stay I P p None r d x other))
      ]

  -- on each day of the stay the patient is in the room of the placement, and in no other
  pub is-there : stay_of P p.0 ≡ Some at → (r d : ℕ) → at.day.0 ≤ d → d < end_of I p.0 at → is_at old r d p.0 ≡ (at.room.0 == r)
  is-there stay r d late early =
      let past : ℕ = at.day.0 + (person_of I p.0).length_of_stay in
      let counted = and_from (nat_le at.day.0 d) (nat_lt d past) (le-leb at.day.0 d late) (lt-ltb d past (omega arith)) in
      stands.each r d p.0 (omega arith) ∙ (somewhere I P p.0 r d at known stay ∙ rw counted (and-true (at.room.0 == r)))
