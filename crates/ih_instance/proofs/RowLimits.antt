-- What the rows read is within the limits.
use Rattle.std.proofs.Common.{◌≡◌, ℕ, zero, suc, ◌+◌, ◌*◌, ◌<◌, ◌≤◌, List, [], ◌∷◌, length, get_or, refl, arith, Bool, true, false, subst}
use Rattle.std.specs.Prelude.{◌≢◌, ◌-◌, ◌==◌, ◌↔◌, min, Option, Some, None, Ok, not, is_some, IsSome, IsTrue, if◌then◌else◌, All, AllPairs}
use Rattle.std.proofs.lemmas.Bool.Decides.{Decides-eqb}
use Rattle.std.specs.Bool.{Decides}
use Rattle.std.proofs.lemmas.List.Elements.{All-push}
use Rattle.std.proofs.lemmas.List.Quantifiers.{all_pairs_push}
use Rattle.std.proofs.lemmas.List.{length-map}
use Rattle.serde_json.specs.Data.{Data}
use Rattle.ih_tables.specs.declared.drafts.Draft.{Draft}
use Rattle.ih_tables.specs.declared.drafts.Room.{Room}
use Rattle.ih_tables.specs.declared.drafts.Surgeon.{Surgeon}
use Rattle.ih_tables.specs.declared.drafts.Theatre.{Theatre}
use Rattle.ih_tables.specs.declared.drafts.Nurse.{Nurse}
use Rattle.ih_tables.specs.declared.drafts.WorkedShift.{WorkedShift}
use Rattle.ih_tables.specs.declared.drafts.Occupant.{Occupant}
use Rattle.ih_tables.specs.declared.drafts.Patient.{Patient}
use Rattle.ih_tables.specs.declared.ids.RoomNo.{RoomNo}
use Rattle.ih_tables.specs.declared.refusals.Place.{Place}
use Rattle.ih_tables.specs.declared.refusals.Key.{Key}
use Rattle.ih_tables.specs.declared.refusals.Key.TheVariants as keys
use Rattle.ih_tables.specs.declared.refusals.Fault.TheVariants.{Duplicate}
use Rattle.ih_tables.specs.Lookups.{number_in}
use Rattle.ih_tables.specs.Works.{load_in, shift_of}
use Rattle.ih_tables.specs.Places.{at_key}
use Rattle.ih_tables.specs.Valid.{Between, IsName, IsVector, IsWorked, IsNurse, IsOccupant, IsPatient}
use Rattle.ih_format.specs.Checks.{Check, ◌>>=◌, number, text, truth, object, list, list_of, vector, new_id, new_name, reference, under}
use Rattle.ih_instance.specs.Instance.{Numbers, room, surgeon, theatre, is_worked, worked, worked_shifts, nurse, occupant, patient, due_day, room_number, room_numbers, names_of_rooms, names_of_surgeons}
use Rattle.ih_instance.proofs.Sound.{ok_is, bind_ok, bind_with, where_so_ok, key_ok, number_sound, text_sound, new_name_sound, reference_sound, vector_sound, each_sound, keeps, Rows, list_of_sound}

pub key_number : (low high : ℕ) (p : Place) (d : Data) (k : Key) (n : ℕ) → under p d k (number low high) ≡ Ok n → Between low high n
key_number low high p d k n h = let v = key_ok p d k (number low high) n h in number_sound low high (at_key k p) v.0 n v.1

key_text : (p : Place) (d : Data) (k : Key) (s : List ℕ) → under p d k text ≡ Ok s → IsName s
key_text p d k s h = let v = key_ok p d k text s h in text_sound (at_key k p) v.0 s v.1

new_id_sound : (f : Numbers) (p : Place) (d : Data) (s : List ℕ) → new_id f p d ≡ Ok s → IsName s × (f s ≡ None)
new_id_sound f p d s h =
    let o = bind_ok (object p d) _ s h in
    let v = key_ok p d keys.Id (new_name f) s o.2 in
    new_name_sound f (at_key keys.Id p) v.0 s v.1

key_reference : (names : List (List ℕ)) (p : Place) (d : Data) (k : Key) (n : ℕ) → under p d k (reference (number_in names)) ≡ Ok n → n < length names
key_reference names p d k n h = let v = key_ok p d k (reference (number_in names)) n h in reference_sound names (at_key k p) v.0 n v.1

key_vector : (n high : ℕ) (p : Place) (d : Data) (k : Key) (xs : List ℕ) → under p d k (vector n high) ≡ Ok xs → IsVector n high xs
key_vector n high p d k xs h = let v = key_ok p d k (vector n high) xs h in vector_sound n high (at_key k p) v.0 xs v.1

-- a row of a new name and of what is read at one key
row_sound : {A B : Type 0} (name : B → List ℕ) (P : B → Type 0) (k : Key) (read : Check A) (make : List ℕ → A → B) → ((s : List ℕ) (a : A) → name (make s a) ≡ s)
    → ((p : Place) (d : Data) (s : List ℕ) (a : A) → under p d k read ≡ Ok a → P (make s a))
    → Rows name P (λ earlier p d. new_id earlier p d >>= λ s. under p d k read >>= λ a. Ok (make s a))
row_sound name P k read make named fits names p d x h =
    let i = bind_ok (new_id (number_in names) p d) _ x h in
    let a = bind_ok (under p d k read) _ x i.2 in
    let new = new_id_sound (number_in names) p d i.0 i.1 in
    subst (λ y. (IsName (name y) × (number_in names (name y) ≡ None)) × P y) (ok_is _ x a.2) (rw (named i.0 a.0) new, fits p d i.0 a.0 a.1)

pub room_sound : Rows (λ (r : Room). r.id) (λ r. r.capacity ≤ 1000) room
unfolding room
room_sound =
    row_sound (λ (r : Room). r.id) (λ r. r.capacity ≤ 1000) keys.Capacity (number 0 1000) (λ s n. record { id = s; capacity = n }) (λ s n. refl)
    (λ p d s n h. (key_number 0 1000 p d keys.Capacity n h).most)

pub surgeon_sound : (days : ℕ) → Rows (λ (s : Surgeon). s.id) (λ s. IsVector days 100000 s.max_surgery_time) (surgeon days)
unfolding surgeon
surgeon_sound days =
    row_sound (λ (s : Surgeon). s.id) (λ s. IsVector days 100000 s.max_surgery_time) keys.MaxSurgeryTime (vector days 100000)
    (λ s ms. record { id = s; max_surgery_time = ms }) (λ s ms. refl) (λ p d s ms h. key_vector days 100000 p d keys.MaxSurgeryTime ms h)

pub theatre_sound : (days : ℕ) → Rows (λ (t : Theatre). t.id) (λ t. IsVector days 100000 t.availability) (theatre days)
unfolding theatre
theatre_sound days =
    row_sound (λ (t : Theatre). t.id) (λ t. IsVector days 100000 t.availability) keys.Availability (vector days 100000)
    (λ s ms. record { id = s; availability = ms }) (λ s ms. refl) (λ p d s ms h. key_vector days 100000 p d keys.Availability ms h)

pub occupant_sound : (I : Draft) → Rows (λ (o : Occupant). o.id) (IsOccupant I) (occupant I.days (number_in I.age_groups) (number_in (names_of_rooms I.rooms)))
unfolding occupant
occupant_sound I names p d x h =
    let i = bind_ok (new_id (number_in names) p d) _ x h in
    let g = bind_ok (under p d keys.Gender text) _ x i.2 in
    let a = bind_ok (under p d keys.AgeGroup (reference (number_in I.age_groups))) _ x g.2 in
    let s = bind_ok (under p d keys.LengthOfStay (number 1 100)) _ x a.2 in
    let w = bind_ok (under p d keys.WorkloadProduced (vector (3 * min s.0 I.days) 100000)) _ x s.2 in
    let k = bind_ok (under p d keys.SkillLevelRequired (vector (3 * min s.0 I.days) 1000)) _ x w.2 in
    let r = bind_ok (under p d keys.RoomId (reference (number_in (names_of_rooms I.rooms)))) _ x k.2 in
    let below = key_reference (names_of_rooms I.rooms) p d keys.RoomId r.0 r.1 in
    subst (λ (y : Occupant). (IsName y.id × (number_in names y.id ≡ None)) × IsOccupant I y) (ok_is _ x r.2) (
      new_id_sound (number_in names) p d i.0 i.1,
      record {
        gender = key_text p d keys.Gender g.0 g.1;
        age = key_reference I.age_groups p d keys.AgeGroup a.0 a.1;
        stay = key_number 1 100 p d keys.LengthOfStay s.0 s.1;
        workload = key_vector (3 * min s.0 I.days) 100000 p d keys.WorkloadProduced w.0 w.1;
        skill = key_vector (3 * min s.0 I.days) 1000 p d keys.SkillLevelRequired k.0 k.1;
        room = omega (arith, below, length-map I.rooms (λ (y : Room). y.id));
      },
    )

unworked : (ws : List WorkedShift) (k : ℕ) → is_worked ws k ≡ false → (j : ℕ) (d : WorkedShift) → j < length ws → shift_of (get_or ws j d) ≢ k
unworked [] k h j d l = absurd (omega arith)
unworked (w ∷ ws) k h j d l = here (shift_of w == k) (Decides-eqb (shift_of w) k) h (λ e. unworked ws k e) j l
  where
    here : (b : Bool) → Decides b (shift_of w ≡ k) → is_some (if b then Some w.max_load else load_in ws k) ≡ false
        → (is_worked ws k ≡ false → (j : ℕ) (d : WorkedShift) → j < length ws → shift_of (get_or ws j d) ≢ k) → (j : ℕ) → j < suc (length ws)
        → shift_of (get_or (w ∷ ws) j d) ≢ k
    here true t h f j l = absurd (let no : true ≡ false = h in cc)
    here false t h f zero l = λ e. absurd (let no : false ≡ true = t.1 e in cc)
    here false t h f (suc j) l = f h j d (omega arith)

not_true : (b : Bool) → not b ≡ true → b ≡ false
not_true true h = absurd (let no : false ≡ true = h in cc)
not_true false h = refl

worked_sound : (I : Draft) → 1 ≤ I.days → length I.shift_types ≤ 3 → (before : List WorkedShift) (p : Place) (d : Data) (x : WorkedShift)
    → worked I.days (number_in I.shift_types) (is_worked before) p d ≡ Ok x → IsWorked I x × (is_worked before (shift_of x) ≡ false)
unfolding worked
worked_sound I some three before p d x h =
    let o = bind_ok (object p d) _ x h in
    let y = bind_ok (under p d keys.Day (number 0 (I.days - 1))) _ x o.2 in
    let s = bind_ok (under p d keys.Shift (reference (number_in I.shift_types))) _ x y.2 in
    let m = bind_ok (under p d keys.MaxLoad (number 0 100000)) _ x s.2 in
    let made : WorkedShift = record { day = record { 0 = y.0 }; shift = s.0; max_load = m.0 } in
    let t = where_so_ok (not (is_worked before (3 * y.0 + s.0))) Duplicate p made x m.2 in
    let day = (key_number 0 (I.days - 1) p d keys.Day y.0 y.1).most in
    let type = key_reference I.shift_types p d keys.Shift s.0 s.1 in
    subst (λ (w : WorkedShift). IsWorked I w × (is_worked before (shift_of w) ≡ false)) t.1 (
      record {
        day = omega (arith, day, some);
        shift = omega (arith, type, three);
        load = (key_number 0 100000 p d keys.MaxLoad m.0 m.1).most;
      },
      not_true _ t.0,
    )

record AreWorkedShifts (I : Draft) (ws : List WorkedShift) : Type 0 where
  pub each : All (IsWorked I) ws
  pub once : AllPairs (λ a b. shift_of a ≢ shift_of b) ws

shifts_sound : (I : Draft) → 1 ≤ I.days → length I.shift_types ≤ 3 → (p : Place) (d : Data) (ws : List WorkedShift) → worked_shifts I.days (number_in I.shift_types) p d ≡ Ok ws → AreWorkedShifts I ws
shifts_sound I some three p d ws h =
    let a = bind_ok (list p d) _ ws h in
    (keeps (AreWorkedShifts I) (λ before. worked I.days (number_in I.shift_types) (is_worked before)) p (λ done q v x i e.
    let r = worked_sound I some three done q v x e in
    record { each = All-push (IsWorked I) done x i.each r.0; once = all_pairs_push (λ a b. shift_of a ≢ shift_of b) done x i.once (unworked done (shift_of x) r.1) })
    a.0 [] ws (record { each = λ k d l. absurd (omega arith); once = λ i j d l m. absurd (omega arith) }) a.2).0

pub nurse_sound : (I : Draft) → 1 ≤ I.days → length I.shift_types ≤ 3 → Rows (λ (n : Nurse). n.id) (IsNurse I) (nurse I.days (number_in I.shift_types))
unfolding nurse
nurse_sound I some three names p d x h =
    let i = bind_ok (new_id (number_in names) p d) _ x h in
    let s = bind_ok (under p d keys.SkillLevel (number 0 1000)) _ x i.2 in
    let w = bind_ok (under p d keys.WorkingShifts (worked_shifts I.days (number_in I.shift_types))) _ x s.2 in
    let v = key_ok p d keys.WorkingShifts (worked_shifts I.days (number_in I.shift_types)) w.0 w.1 in
    let ws = shifts_sound I some three (at_key keys.WorkingShifts p) v.0 w.0 v.1 in
    subst (λ (n : Nurse). (IsName n.id × (number_in names n.id ≡ None)) × IsNurse I n) (ok_is _ x w.2) (
      new_id_sound (number_in names) p d i.0 i.1,
      record {
        skill = (key_number 0 1000 p d keys.SkillLevel s.0 s.1).most;
        shifts = ws.each;
        once = ws.once;
      },
    )

record IsDue (mandatory : Bool) (due : Option ℕ) : Type 0 where
  pub has : IsSome due ↔ IsTrue mandatory
  pub small : (n : ℕ) → due ≡ Some n → n ≤ 1000

due_sound : (m : Bool) (p : Place) (d : Data) (o : Option ℕ) → due_day m p d ≡ Ok o → IsDue m o
due_sound true p d o h =
    let a = bind_ok (under p d keys.SurgeryDueDay (number 0 1000)) _ o h in
    let n = key_number 0 1000 p d keys.SurgeryDueDay a.0 a.1 in
    subst (IsDue true) (ok_is (Some a.0) o a.2) (record { has = (λ e. refl, λ e. refl); small = λ j e. let same : a.0 ≡ j = cc in omega (arith, n.most) })
due_sound false p d o h =
    subst (IsDue false) (ok_is None o h)
    (record {
      has = (λ e. absurd (let no : false ≡ true = e in cc), λ e. absurd (let no : false ≡ true = e in cc));
      small = λ n e. absurd
          (let no : None ≡ Some n = e in cc);
    })

record AreRooms (rooms : List (List ℕ)) (rs : List RoomNo) : Type 0 where
  pub few : length rs ≤ 1024
  pub each : All (λ r. r.0 < length rooms) rs

rooms_sound : (names : List (List ℕ)) (p : Place) (d : Data) (rs : List RoomNo) → room_numbers (number_in names) p d ≡ Ok rs → AreRooms names rs
rooms_sound names p d rs h =
    let a = bind_ok (list_of 0 1024 p d) _ rs h in
    let few = (list_of_sound 0 1024 p d a.0 a.1).most in
    let e = each_sound (λ (r : RoomNo). r.0 < length names) (λ _. room_number (number_in names)) p a.0 rs (λ done q v x r.
    let n = bind_ok (reference (number_in names) q v) _ x r in
    subst (λ (y : RoomNo). y.0 < length names) (ok_is _ x n.2) (reference_sound names q v n.0 n.1)) a.2 in
    record { few = omega (arith, few, e.1); each = e.0 }

pub patient_sound : (I : Draft) → Rows (λ (y : Patient). y.id) (IsPatient I) (patient I.days (number_in I.age_groups) (number_in (names_of_surgeons I.surgeons)) (number_in (names_of_rooms I.rooms)))
unfolding patient
patient_sound I names p d x h =
    bind_with (new_id (number_in names) p d) _ x h (λ i ri h1.
    bind_with (under p d keys.Mandatory truth) _ x h1 (λ m rm h2.
    bind_with (under p d keys.Gender text) _ x h2 (λ g rg h3.
    bind_with (under p d keys.AgeGroup (reference (number_in I.age_groups))) _ x h3 (λ a ra h4.
    bind_with (under p d keys.LengthOfStay (number 1 100)) _ x h4 (λ s rs h5.
    bind_with (under p d keys.SurgeryReleaseDay (number 0 1000)) _ x h5 (λ e re h6.
    bind_with (due_day m p d) _ x h6 (λ u ru h7.
    bind_with (under p d keys.SurgeryDuration (number 0 100000)) _ x h7 (λ t rt h8.
    bind_with (under p d keys.SurgeonId (reference (number_in (names_of_surgeons I.surgeons)))) _ x h8 (λ f rf h9.
    bind_with (under p d keys.IncompatibleRoomIds (room_numbers (number_in (names_of_rooms I.rooms)))) _ x h9 (λ c rc h10.
    bind_with (under p d keys.WorkloadProduced (vector (3 * min s I.days) 100000)) _ x h10 (λ w rw_ h11.
    bind_with (under p d keys.SkillLevelRequired (vector (3 * min s I.days) 1000)) _ x h11 (λ k rk h12.
    let due = due_sound m p d u ru in
    let surgeon = key_reference (names_of_surgeons I.surgeons) p d keys.SurgeonId f rf in
    let v = key_ok p d keys.IncompatibleRoomIds (room_numbers (number_in (names_of_rooms I.rooms))) c rc in
    let closed = rooms_sound (names_of_rooms I.rooms) (at_key keys.IncompatibleRoomIds p) v.0 c v.1 in
    subst (λ (y : Patient). (IsName y.id × (number_in names y.id ≡ None)) × IsPatient I y) (ok_is _ x h12) (
      new_id_sound (number_in names) p d i ri,
      record {
        gender = key_text p d keys.Gender g rg;
        age = key_reference I.age_groups p d keys.AgeGroup a ra;
        stay = key_number 1 100 p d keys.LengthOfStay s rs;
        release = (key_number 0 1000 p d keys.SurgeryReleaseDay e re).most;
        has_due = due.has;
        due = due.small;
        duration = (key_number 0 100000 p d keys.SurgeryDuration t rt).most;
        surgeon = omega (arith, surgeon, length-map I.surgeons (λ (y : Surgeon). y.id));
        rooms_len = closed.few;
        rooms = λ j r l. let b = closed.each j r l in omega (arith, b, length-map I.rooms (λ (y : Room). y.id));
        workload = key_vector (3 * min s I.days) 100000 p d keys.WorkloadProduced w rw_;
        skill = key_vector (3 * min s I.days) 1000 p d keys.SkillLevelRequired k rk;
      },
    )))))))))))))
