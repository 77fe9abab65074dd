-- The choices of nurses by room and shift, and what a nurse's assignments make of them.
use Rattle.std.proofs.Common.{◌≡◌, ℕ, suc, ◌+◌, ◌*◌, ◌/◌, ◌%◌, ◌<◌, ◌≤◌, refl, arith, sym, ap, ◌∙◌, Bool, true, false, List, [], ◌∷◌, ◌++◌, inl, inr, length, Option, Some, None, subst, mul_comm}
use Rattle.std.specs.Prelude.{◌==◌, ◌&&◌, ◌||◌, if◌then◌else◌, All, is_some, slice_get, slice_set, option_map, option_and_then}
use Rattle.std.specs.List.{list_any}
use Rattle.std.proofs.lemmas.Bool.{cases_eq, eq-eqb, ne_eqb, eqb-true, and_parts}
use Rattle.std.proofs.lemmas.List.Folds.{Any-from_list_any}
use Rattle.std.proofs.lemmas.List.FromFn.{length-map-range_with_len, get_or-map-range_with_len}
use Rattle.std.proofs.lemmas.Option.{slice_get-get_or}
use Rattle.std.proofs.lemmas.Nat.{div-mul-add, mod-mul-add, mod_below, div_below, div-add-mod', mul-add-lt}
use Rattle.ih_tables.specs.declared.drafts.Draft.{Draft}
use Rattle.ih_tables.specs.declared.ids.RoomNo.{RoomNo}
use Rattle.ih_tables.specs.declared.ids.NurseNo.{NurseNo}
use Rattle.ih_tables.specs.declared.ids.Shift.{Shift}
use Rattle.ih_tables.specs.Sizes.{room_count, shift_count}
use Rattle.ih_plan.specs.declared.moves.Placement.{Placement}
use Rattle.ih_tables.specs.Listed.{listed}
use Rattle.ih_plan.specs.Timetable.{Timetable, choice_of}
use Rattle.ih_solution.specs.Reading.{have, nurse_in, has_nurse}
use Rattle.ih_solution.specs.Assigned.{IsFree, IsAssignment, IsListedNurse, with_rooms, with_assignments}
use Rattle.ih_solution.specs.declared.reader.rows.ListedNurse.{ListedNurse}
use Rattle.ih_solution.specs.declared.reader.rows.Assignment.{Assignment}
use Rattle.ih_solution.proofs.Timetables.{listed-same, listed-set, find-last, find-not_last}

-- who nurses a room in a shift
abbrev pub Choices : Type 0
Choices = ℕ → ℕ → Option NurseNo

abbrev pub grid : Draft → Choices → List (Option NurseNo)
grid I f = listed (shift_count I * room_count I) (λ i. f (i / shift_count I) (i % shift_count I))

abbrev pub table : Draft → List (Option Placement) → Choices → Timetable
table I stays f = record { stays = stays; cares = grid I f; shifts = shift_count I }

-- ---- places

-- the room and the shift of a place are in range
pub place-inside : (I : Draft) (i : ℕ) → 1 ≤ I.days → i < shift_count I * room_count I → (i / shift_count I < room_count I) × (i % shift_count I < shift_count I)
place-inside I i some h =
    let positive : 0 < shift_count I = omega arith in
    (div_below i (shift_count I) (room_count I) positive (rw (mul_comm (room_count I) (shift_count I)) h), mod_below i (shift_count I) positive)

pub inside-grid : (I : Draft) (r k : ℕ) → r < room_count I → k < shift_count I → shift_count I * r + k < shift_count I * room_count I
inside-grid I r k rh kh = rw (mul_comm (shift_count I) r) (mul-add-lt r (shift_count I) k (room_count I) rh kh)

room-of : (I : Draft) (r k : ℕ) → k < shift_count I → (shift_count I * r + k) / shift_count I ≡ r
room-of I r k kh = rw (mul_comm (shift_count I) r) (div-mul-add r (shift_count I) k kh)

shift-of : (I : Draft) (r k : ℕ) → k < shift_count I → (shift_count I * r + k) % shift_count I ≡ k
shift-of I r k kh = rw (mul_comm (shift_count I) r) (mod-mul-add r (shift_count I) k kh)

pub grid-same : (I : Draft) (f g : Choices) → 1 ≤ I.days → ((r k : ℕ) → r < room_count I → k < shift_count I → f r k ≡ g r k) → grid I f ≡ grid I g
grid-same I f g some same = listed-same (shift_count I * room_count I) _ _ (λ i h. let inside = place-inside I i some h in same (i / shift_count I) (i % shift_count I) inside.0 inside.1)

-- the choice at a room and a shift
pub choice-grid : (I : Draft) (stays : List (Option Placement)) (f : Choices) (r k : ℕ) → r < room_count I → k < shift_count I → choice_of (table I stays f) r k ≡ f r k
choice-grid I stays f r k rh kh =
    let n = shift_count I * room_count I in
    let i = shift_count I * r + k in
    let h : i < n = inside-grid I r k rh kh in
    let F : ℕ → Option NurseNo = λ i. f (i / shift_count I) (i % shift_count I) in
    let len : length (listed n F) ≡ n = length-map-range_with_len F 0 n in
    let there : slice_get (listed n F) i ≡ Some (F i) = slice_get-get_or (listed n F) i None (omega (arith, len, h)) ∙ ap Some (get_or-map-range_with_len F 0 n i i None h (omega arith)) in
    ap (option_and_then (λ (c : Option NurseNo). c)) there ∙ rw (room-of I r k kh, shift-of I r k kh) refl

-- one choice is replaced
grid-set : (I : Draft) (f g : Choices) (r k : ℕ) → r < room_count I → k < shift_count I → ((s l : ℕ) → (s ≡ r → l ≡ k → ⊥) → f s l ≡ g s l)
    → slice_set (grid I f) (shift_count I * r + k) (g r k) ≡ grid I g
grid-set I f g r k rh kh same =
    let S = shift_count I in
    let F : ℕ → Option NurseNo = λ i. f (i / S) (i % S) in
    let G : ℕ → Option NurseNo = λ i. g (i / S) (i % S) in
    let set : slice_set (listed (S * room_count I) F) (S * r + k) (G (S * r + k)) ≡ listed (S * room_count I) G = listed-set (S * room_count I) (S * r + k) F G (inside-grid I r k rh kh) (λ j h other.
    same (j / S) (j % S) (λ e d. other (sym (div-add-mod' j S) ∙ rw (e, d, mul_comm r S) refl))) in
    rw (room-of I r k kh, shift-of I r k kh) at set

-- ---- a nurse's rooms

over : NurseNo → ℕ → List RoomNo → Choices → Choices
over n k rooms f s l = if (k == l) && list_any (λ (x : RoomNo). x.0 == s) rooms then Some n else f s l

over_all : NurseNo → List Assignment → Choices → Choices
over_all n given f s l = if have given s l then Some n else f s l

no_rooms : {A : Type 0} (b : Bool) (x y : A) → y ≡ (if b && false then x else y)
no_rooms true x y = refl
no_rooms false x y = refl

more_rooms : {A : Type 0} (a b c : Bool) (x y : A) → (if a && c then x else if a && (b || false) then x else y) ≡ (if a && (b || c) then x else y)
more_rooms true true true x y = refl
more_rooms true true false x y = refl
more_rooms true false true x y = refl
more_rooms true false false x y = refl
more_rooms false b c x y = refl

rooms-table : (I : Draft) (n : NurseNo) (k : Shift) (rooms : List RoomNo) (stays : List (Option Placement)) (f : Choices) → 1 ≤ I.days → k.0 < shift_count I
    → All (λ (r : RoomNo). r.0 < room_count I) rooms
    → with_rooms n k rooms (table I stays f) ≡ table I stays (over n k.0 rooms f)
unfolding over
rooms-table I n k [] stays f some kh within = ap (λ (c : List (Option NurseNo)). record (table I stays f) { cares = c })
    (grid-same I f (over n k.0 [] f) some (λ s l sh lh. no_rooms (k.0 == l) (Some n) (f s l)))
rooms-table I n k (r ∷ rest) stays f some kh within =
    let rh : r.0 < room_count I = within 0 r (omega arith) in
    let one : Choices = over n k.0 (r ∷ []) f in
    let here : one r.0 k.0 ≡ Some n = rw (eq-eqb k.0 k.0 refl, eq-eqb r.0 r.0 refl) refl in
    let put_one = rw here at (grid-set I f one r.0 k.0 rh kh (λ s l other. apart s l other)) in
    ap (λ (c : List (Option NurseNo)). with_rooms n k rest (record (table I stays f) { cares = c })) put_one
    ∙ rooms-table I n k rest stays one some kh (λ j d h. within (suc j) d (omega arith))
    ∙ ap (λ (c : List (Option NurseNo)). record (table I stays f) { cares = c })
    (grid-same I (over n k.0 rest one) (over n k.0 (r ∷ rest) f) some
    (λ s l sh lh. more_rooms (k.0 == l) (r.0 == s) (list_any (λ (x : RoomNo). x.0 == s) rest) (Some n) (f s l)))
  where
    apart : (s l : ℕ) → (s ≡ r.0 → l ≡ k.0 → ⊥) → f s l ≡ over n k.0 (r ∷ []) f s l
    apart s l other = elim (cases_eq k.0 l) [
      | inl same ↦ rw (ne_eqb r.0 s (λ e. other (sym e) (sym same))) (no_rooms (k.0 == l) (Some n) (f s l))
      | inr differ ↦ rw (ne_eqb k.0 l differ) refl
    ]

more_assignments : {A : Type 0} (a c : Bool) (x y : A) → (if c then x else if a then x else y) ≡ (if a || c then x else y)
more_assignments true true x y = refl
more_assignments true false x y = refl
more_assignments false c x y = refl

assignments-table : (I : Draft) (n : NurseNo) (given : List Assignment) (stays : List (Option Placement)) (f : Choices) (P : Timetable) → 1 ≤ I.days → All (IsAssignment I P) given
    → with_assignments n given (table I stays f) ≡ table I stays (over_all n given f)
unfolding over over_all
assignments-table I n [] stays f P some fits = refl
assignments-table I n (a ∷ rest) stays f P some fits =
    let fit = fits 0 a (omega arith) in
    let one : Choices = over n a.shift.0 a.rooms f in
    ap (with_assignments n rest) (rooms-table I n a.shift a.rooms stays f some fit.shift (λ j d h. (fit.rooms j d h).inside))
    ∙ assignments-table I n rest stays one P some (λ j d h. fits (suc j) d (omega arith))
    ∙ ap (λ (c : List (Option NurseNo)). record (table I stays f) { cares = c })
    (grid-same I (over_all n rest one) (over_all n (a ∷ rest) f) some
    (λ s l sh lh. more_assignments ((a.shift.0 == l) && list_any (λ (x : RoomNo). x.0 == s) a.rooms) (have rest s l) (Some n) (f s l)))

-- ---- one more nurse

-- what a nurse's assignments have is free
have-free : (I : Draft) (P : Timetable) (given : List Assignment) (r k : ℕ) → All (IsAssignment I P) given → have given r k ≡ true → has_nurse P r k ≡ false
have-free I P given r k fits h =
    let w = Any-from_list_any _ given h in
    let both = and_parts _ _ w.4 in
    let v = Any-from_list_any _ w.1.rooms both.1 in
    let fit : IsAssignment I P w.1 = subst (IsAssignment I P) w.3 (fits w.0 w.1 w.2) in
    let free : IsFree I P w.1.shift.0 v.1 = subst (IsFree I P w.1.shift.0) v.3 (fit.rooms v.0 v.1 v.2) in
    sym (ap (λ y. has_nurse P y k) (eqb-true v.1.0 r v.4)) ∙ sym (ap (has_nurse P v.1.0) (eqb-true w.1.shift.0 k both.0)) ∙ free.free

no_row : (o : Option ListedNurse) → is_some (option_map (λ (row : ListedNurse). row.nurse) o) ≡ false → o ≡ None
no_row None h = refl
no_row (Some row) h = absurd (let no : true ≡ false = h in cc)

-- one more nurse's row is the nurse's assignments more
pub cares-more : (I : Draft) (rows : List ListedNurse) (row : ListedNurse) (stays : List (Option Placement)) → 1 ≤ I.days → IsListedNurse I (table I stays (nurse_in rows)) row
    → with_assignments row.nurse row.assignments (table I stays (nurse_in rows)) ≡ table I stays (nurse_in (rows ++ row ∷ []))
unfolding over_all
cares-more I rows row stays some fits =
    assignments-table I row.nurse row.assignments stays (nurse_in rows) _ some fits.assignments
    ∙ ap (λ (c : List (Option NurseNo)). record (table I stays (nurse_in rows)) { cares = c })
    (grid-same I (over_all row.nurse row.assignments (nurse_in rows)) (nurse_in (rows ++ row ∷ [])) some
    (λ r k rh kh. by_case r k (have row.assignments r k) refl rh kh))
  where
    by_case : (r k : ℕ) (b : Bool) → have row.assignments r k ≡ b → r < room_count I → k < shift_count I → (if b then Some row.nurse else nurse_in rows r k) ≡ nurse_in (rows ++ row ∷ []) r k
    by_case r k true h rh kh =
        let free : has_nurse (table I stays (nurse_in rows)) r k ≡ false = have-free I _ row.assignments r k fits.assignments h in
        let none = no_row _ (ap is_some (sym (choice-grid I stays (nurse_in rows) r k rh kh)) ∙ free) in
        sym (ap (option_map (λ (x : ListedNurse). x.nurse)) (find-last (λ (x : ListedNurse). have x.assignments r k) rows row h none))
    by_case r k false h rh kh = ap (option_map (λ (x : ListedNurse). x.nurse)) (sym (find-not_last (λ (x : ListedNurse). have x.assignments r k) rows row h))
