-- An accepted file gives valid data.
use Rattle.std.proofs.Common.{◌≡◌, ℕ, ◌≤◌, List, [], ◌∷◌, map, arith, refl, subst}
use Rattle.std.specs.Prelude.{Result, Ok, Err, IfOk, All, pos, ℤ, ◌≤ℤ◌}
use Rattle.std.proofs.lemmas.List.Elements.{All-from_recursion}
use Rattle.std.proofs.lemmas.Int.{ints}
use Rattle.serde_json.specs.Data.{Data}
use Rattle.ih_tables.specs.declared.drafts.Draft.{Draft}
use Rattle.ih_tables.specs.declared.drafts.Room.{Room}
use Rattle.ih_tables.specs.declared.drafts.Surgeon.{Surgeon}
use Rattle.ih_tables.specs.declared.drafts.Theatre.{Theatre}
use Rattle.ih_tables.specs.declared.drafts.Nurse.{Nurse}
use Rattle.ih_tables.specs.declared.drafts.Occupant.{Occupant}
use Rattle.ih_tables.specs.declared.drafts.Patient.{Patient}
use Rattle.ih_tables.specs.declared.bills.Weights.{Weights}
use Rattle.ih_tables.specs.declared.refusals.Place.{Place}
use Rattle.ih_tables.specs.declared.refusals.Refusal.{Refusal}
use Rattle.ih_tables.specs.declared.refusals.Key.{Key}
use Rattle.ih_tables.specs.declared.refusals.Key.TheVariants as keys
use Rattle.ih_tables.specs.declared.refusals.Fault.TheVariants.{NotJson}
use Rattle.ih_tables.specs.Lookups.{number_in}
use Rattle.ih_tables.specs.Places.{at_key, whole}
use Rattle.ih_tables.specs.Valid.{IsListed, IsVector, IsNurse, IsOccupant, IsPatient, IsValid}
use Rattle.ih_format.specs.Checks.{Check, or_else, number, object, new_name, under, named}
use Rattle.ih_instance.specs.Instance.{Numbers, room, surgeon, theatre, nurse, occupant, patient, one_spelling, weight, weights, names, surgeons, theatres, rooms, nurses, occupants, patients, names_of_rooms, names_of_surgeons, draft, draft_with, instance}
use Rattle.ih_format.specs.Documents.{value_of}
use Rattle.ih_instance.proofs.Sound.{ok_is, bind_with, key_ok, new_name_sound, named_sound, Rows}
use Rattle.ih_instance.proofs.RowLimits.{key_number, room_sound, surgeon_sound, theatre_sound, nurse_sound, occupant_sound, patient_sound}

abbrev IsWeight : ℤ → Type 0
IsWeight z = (pos 0 ≤ℤ z) × (z ≤ℤ pos 100000)

one : (p : Place) (d : Data) (k : Key) (n : ℕ) → weight p d k ≡ Ok n → IsWeight (pos n)
one p d k n h = let b = key_number 0 100000 p d k n h in (omega (arith, ints, b.least), omega (arith, ints, b.most))

weights_sound : (p : Place) (d : Data) (x : Weights) → weights p d ≡ Ok x → All IsWeight x.w
unfolding weights
weights_sound p d x h =
    bind_with (object p d) _ x h (λ o ro h0.
    bind_with (weight p d keys.RoomMixedAge) _ x h0 (λ a ra h1.
    bind_with (weight p d keys.RoomNurseSkill) _ x h1 (λ b rb h2.
    bind_with (weight p d keys.ContinuityOfCare) _ x h2 (λ c rc h3.
    bind_with (one_spelling p d) _ x h3 (λ k rk h4.
    bind_with (weight p d k) _ x h4 (λ e re h5.
    bind_with (weight p d keys.OpenOperatingTheater) _ x h5 (λ f rf h6.
    bind_with (weight p d keys.SurgeonTransfer) _ x h6 (λ g rg h7.
    bind_with (weight p d keys.PatientDelay) _ x h7 (λ j rj h8.
    bind_with (weight p d keys.UnscheduledOptional) _ x h8 (λ i ri h9.
    subst (λ (y : Weights). All IsWeight y.w) (ok_is _ x h9) (All-from_recursion IsWeight (map pos (a ∷ b ∷ c ∷ e ∷ f ∷ g ∷ j ∷ i ∷ [])) (
      one p d keys.RoomMixedAge a ra,
      (
        one p d keys.RoomNurseSkill b rb,
        (
          one p d keys.ContinuityOfCare c rc,
          (
            one p d k e re,
            (
              one p d keys.OpenOperatingTheater f rf,
              (one p d keys.SurgeonTransfer g rg, (one p d keys.PatientDelay j rj, (one p d keys.UnscheduledOptional i ri, tt))),
            ),
          ),
        ),
      ),
    ))))))))))))

-- a list under a key
listed : {A : Type 0} (low high : ℕ) (name : A → List ℕ) (P : A → Type 0) (row : Numbers → Check A) (p : Place) (d : Data) (k : Key) (xs : List A)
    → Rows name P row → under p d k (named low high name row) ≡ Ok xs → IsListed low high name xs × All P xs
listed low high name P row p d k xs rows h =
    let v = key_ok p d k (named low high name row) xs h in
    named_sound low high name P row (at_key k p) v.0 xs rows v.1

words : Rows (λ (s : List ℕ). s) (λ _. Unit {0}) new_name
words names p d s h = (new_name_sound (number_in names) p d s h, tt)

draft_sound : (p : Place) (d : Data) (x : Draft) → draft p d ≡ Ok x → IsValid x
unfolding draft
draft_sound p d x h =
    bind_with (object p d) _ x h (λ o ro h0.
    bind_with (under p d keys.Days (number 1 56)) _ x h0 (λ days r1 h1.
    bind_with (under p d keys.SkillLevels (number 1 1000)) _ x h1 (λ levels r2 h2.
    bind_with (under p d keys.ShiftTypes (names 3 3)) _ x h2 (λ types r3 h3.
    bind_with (under p d keys.AgeGroups (names 0 64)) _ x h3 (λ groups r4 h4.
    bind_with (under p d keys.Weights weights) _ x h4 (λ ws r5 h5.
    bind_with (under p d keys.Surgeons (surgeons days)) _ x h5 (λ ss r6 h6.
    bind_with (under p d keys.OperatingTheaters (theatres days)) _ x h6 (λ ts r7 h7.
    bind_with (under p d keys.Rooms rooms) _ x h7 (λ rs r8 h8.
    bind_with (under p d keys.Nurses (nurses days types)) _ x h8 (λ ns r9 h9.
    bind_with (under p d keys.Occupants (occupants days groups rs)) _ x h9 (λ os r10 h10.
    bind_with (under p d keys.Patients (patients days groups ss rs)) _ x h10 (λ ps r11 h11.
    let made = draft_with days levels types groups ws ss ts rs ns os ps in
    let horizon = key_number 1 56 p d keys.Days days r1 in
    let three = listed 3 3 (λ (s : List ℕ). s) (λ _. Unit {0}) new_name p d keys.ShiftTypes types words r3 in
    let w = key_ok p d keys.Weights weights ws r5 in
    let s = listed 0 128 (λ (y : Surgeon). y.id) (λ y. IsVector days 100000 y.max_surgery_time) (surgeon days) p d keys.Surgeons ss (surgeon_sound days) r6 in
    let t = listed 0 64 (λ (y : Theatre). y.id) (λ y. IsVector days 100000 y.availability) (theatre days) p d keys.OperatingTheaters ts (theatre_sound days) r7 in
    let r = listed 1 128 (λ (y : Room). y.id) (λ y. y.capacity ≤ 1000) room p d keys.Rooms rs room_sound r8 in
    let n = listed 0 512 (λ (y : Nurse). y.id) (IsNurse made) (nurse days (number_in types)) p d keys.Nurses ns (nurse_sound made horizon.least three.0.len.most) r9 in
    let c = listed 0 512 (λ (y : Occupant). y.id) (IsOccupant made) (occupant days (number_in groups) (number_in (names_of_rooms rs))) p d keys.Occupants os (occupant_sound made) r10 in
    let q = listed 0 2048 (λ (y : Patient). y.id) (IsPatient made)
    (patient days (number_in groups) (number_in (names_of_surgeons ss)) (number_in (names_of_rooms rs))) p d keys.Patients ps (patient_sound made) r11 in
    subst IsValid (ok_is made x h11) (record {
      days = horizon;
      skills = key_number 1 1000 p d keys.SkillLevels levels r2;
      types = three.0;
      ages = (listed 0 64 (λ (s : List ℕ). s) (λ _. Unit {0}) new_name p d keys.AgeGroups groups words r4).0;
      weights = weights_sound (at_key keys.Weights p) w.0 ws w.1;
      surgeons = s.0;
      minutes = s.1;
      theatres = t.0;
      availability = t.1;
      rooms = r.0;
      capacity = r.1;
      nurses = n.0;
      each_nurse = n.1;
      occupants = c.0;
      each_occupant = c.1;
      patients = q.0;
      each_patient = q.1;
    })))))))))))))

pub instance_sound : (bytes : List ℕ) (x : Draft) → instance bytes ≡ Ok x → IsValid x
instance_sound bytes x h = bind_with (or_else NotJson whole (value_of bytes)) _ x h (λ v rv h0. draft_sound whole v x h0)

-- whatever the file is
pub accepted_valid : (bytes : List ℕ) → IfOk (instance bytes) IsValid
accepted_valid bytes = go (instance bytes) refl
  where
    go : (r : Result Draft Refusal) → instance bytes ≡ r → IfOk r IsValid
    go (Ok x) is = instance_sound bytes x is
    go (Err e) is = tt
