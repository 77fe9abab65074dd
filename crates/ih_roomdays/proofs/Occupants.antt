-- The occupants come into their rooms, one after the other.
use Rattle.std.proofs.Common.{◌≡◌, ℕ, ◌+◌, ◌<◌, refl, arith, sym, ap, subst, ◌∙◌, Some, inl, inr}
use Rattle.std.specs.Prelude.{◌||◌, ◌&&◌, ◌==◌, nat_lt, slice_get}
use Rattle.std.proofs.lemmas.Bool.{cases_eq, cases_lt, eq-eqb, ne_eqb, lt-ltb, le-ltb}
use Rattle.ih_tables.specs.declared.drafts.Draft.{Draft}
use Rattle.ih_tables.specs.declared.drafts.Occupant.{Occupant}
use Rattle.ih_tables.specs.Sizes.{patient_count, occupant_count, person_count, room_count}
use Rattle.ih_plan.specs.Timetable.{empty}
use Rattle.ih_plan.specs.Presence.{is_present, end_from}
use Rattle.ih_plan.proofs.PlanRanges.{empty-plan}
use Rattle.ih_roomdays.specs.declared.profiles.Profiles.{Profiles}
use Rattle.ih_roomdays.specs.declared.room_lists.RoomLists.{RoomLists}
use Rattle.ih_roomdays.specs.RoomLists.{AreRoomLists, AreVacant, IsEntered, is_at, of_stay}
use Rattle.ih_roomdays.specs.Profiles.{AreProfiles}
use Rattle.ih_roomdays.specs.Ledger.{IsLedgerOf}
use Rattle.std.proofs.Math.Bool.{or-false, and-false}
use Rattle.ih_plan.proofs.Spans.{span-covers}
use Rattle.ih_plan.proofs.Whereabouts.{no-stay, nowhere, occupant-there, below-next, nobody-past}

-- The first k occupants are in their rooms, and nobody else is in any.
pub record IsFilled (I : Draft) (v : RoomLists) (k : ℕ) : Type 0 where
  pub rows : AreRoomLists v
  pub rooms : v.rooms ≡ room_count I
  pub days : v.days ≡ I.days
  pub persons : v.persons ≡ person_count I
  pub profiles : AreProfiles I v.profiles
  pub each : (r d x : ℕ) → d < I.days → is_at v r d x ≡ (nat_lt x (patient_count I + k) && is_present I (empty I) r d x)

pub filled-none : (I : Draft) (v : RoomLists) (profiles : Profiles) → AreProfiles I profiles → AreVacant (room_count I) I.days (person_count I) profiles v → IsFilled I v 0
filled-none I v profiles known vacant = record {
  rows = vacant.rows;
  rooms = vacant.rooms_are;
  days = vacant.days_are;
  persons = vacant.persons_are;
  profiles = rw vacant.profiles_are known;
  each = λ r d x below. vacant.nobody r d x ∙ elim (cases_lt x (patient_count I)) [
    | inl patient ↦ rw (nowhere I (empty I) x r d patient (no-stay I x)) (sym (and-false (nat_lt x (patient_count I + 0))))
    | inr past ↦ rw (le-ltb x (patient_count I + 0) (omega arith)) refl
  ];
}

pub filled-more : (I : Draft) (v new : RoomLists) (k : ℕ) (o : Occupant) → IsFilled I v k → slice_get I.occupants k ≡ Some o
    → IsEntered v new o.room_id.0 (patient_count I + k) 0 (end_from I 0 o.length_of_stay) → IsFilled I new (k + 1)
filled-more I v new k o filled is entered = record {
  rows = entered.rows;
  rooms = entered.rooms ∙ filled.rooms;
  days = entered.days ∙ filled.days;
  persons = entered.persons ∙ filled.persons;
  profiles = subst (AreProfiles I) (sym entered.profiles) filled.profiles;
  each = λ r d x below. entered.each r d x (rw filled.days below)
      ∙ (ap (λ b. b || ((o.room_id.0 == r) && of_stay (patient_count I + k) 0 (end_from I 0 o.length_of_stay) d x)) (filled.each r d x below) ∙ each r d x below);
}
  where
    more : (r d x : ℕ) → Type 0
    more r d x = ((nat_lt x (patient_count I + k) && is_present I (empty I) r d x) || ((o.room_id.0 == r) && of_stay (patient_count I + k) 0 (end_from I 0 o.length_of_stay) d x))
        ≡ (nat_lt x (patient_count I + (k + 1)) && is_present I (empty I) r d x)

    own : (r d : ℕ) → d < I.days → more r d (patient_count I + k)
    own r d below =
        let before = le-ltb (patient_count I + k) (patient_count I + k) (omega arith) in
        let now = lt-ltb (patient_count I + k) (patient_count I + (k + 1)) (omega arith) in
        rw (before, now, eq-eqb (patient_count I + k) (patient_count I + k) refl, span-covers 0 o.length_of_stay I.days d below) (sym (occupant-there I (empty I) r d k o is))

    each : (r d x : ℕ) → d < I.days → more r d x
    each r d x below = elim (cases_eq x (patient_count I + k)) [
      | inl same ↦ subst (more r d) (sym same) (own r d below)
      | inr other ↦
          rw (ne_eqb x (patient_count I + k) other, below-next (patient_count I) k x other, and-false (o.room_id.0 == r)) (or-false (nat_lt x (patient_count I + k) && is_present I (empty I) r d x))
    ]

-- with all occupants the ledger stands for the empty timetable
pub filled-all : (I : Draft) (v : RoomLists) → IsFilled I v (occupant_count I) → IsLedgerOf I (empty I) v
filled-all I v filled = record {
  plan = empty-plan I;
  rows = filled.rows;
  rooms = filled.rooms;
  days = filled.days;
  persons = filled.persons;
  profiles = filled.profiles;
  each = λ r d x below. filled.each r d x below ∙ elim (cases_lt x (person_count I)) [
    | inl inside ↦ rw (lt-ltb x (person_count I) inside) refl
    | inr past ↦ rw (le-ltb x (person_count I) past) (sym (nobody-past I (empty I) r d x past))
  ];
}
