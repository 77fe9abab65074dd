-- Each generated nurse is read as meant, with all worked shifts.
use Rattle.std.proofs.Common.{◌≡◌, ℕ, zero, suc, ◌+◌, ◌-◌, ◌*◌, ◌^◌, ◌<◌, ◌≤◌, refl, ap, arith, Bool, true, false, List, [], ◌∷◌, ◌++◌, length, map, Option, Some, None}
use Rattle.std.specs.Prelude.{◌≢◌, Ok, Err, is_some, ◌==◌, if◌then◌else◌}
use Rattle.std.proofs.lemmas.Bool.{ne_eqb, ltb-true}
use Rattle.std.proofs.lemmas.List.{map-append}
use Rattle.serde_json.specs.Data.{Data, string}
use Rattle.serde_json.proofs.OnLiterals.{serde_json_on_literals}
use Rattle.ih_tables.specs.declared.drafts.Nurse.{Nurse}
use Rattle.ih_tables.specs.declared.drafts.WorkedShift.{WorkedShift}
use Rattle.ih_tables.specs.declared.refusals.Place.{Place}
use Rattle.ih_tables.specs.declared.refusals.Key.TheVariants as keys
use Rattle.ih_tables.specs.Lookups.{number_in}
use Rattle.ih_tables.specs.Places.{at_key, at_item}
use Rattle.ih_tables.specs.Works.{shift_of, load_in}
use Rattle.ih_plan.specs.Draws.{state_after}
use Rattle.ih_plan.specs.Sums.{which_below, count_below}
use Rattle.ih_format.specs.Checks.{Check, Checked, ◌>>=◌, reference, each_after}
use Rattle.ih_format.proofs.Listing.{same_items}
use Rattle.ih_instance.specs.Instance.{worked, is_worked, nurse}
use Rattle.ih_gen.specs.Words.{pick}
use Rattle.ih_gen.specs.Generated.{shift_name, turn_of, works, shift_data, worked_data, nurse_data}
use Rattle.ih_gen.proofs.Readings.{id, new-id, pick-below, number-reads}

unfoldable pub types : List (List ℕ)
types = shift_name 0 ∷ shift_name 1 ∷ shift_name 2 ∷ []

type-reads : (k : ℕ) (p : Place) → k < 3 → reference (number_in types) p (string (shift_name k)) ≡ Ok k
unfolding number_in types
type-reads zero p h = refl
type-reads (suc zero) p h = refl
type-reads (suc (suc zero)) p h = refl
type-reads (suc (suc (suc k))) p h = absurd (omega arith)

abbrev shift_with : ℕ → ℕ → ℕ → WorkedShift
shift_with day turn load = record { day = record { 0 = day }; shift = turn; max_load = load }

shift-reads : (days day turn load : ℕ) (taken : ℕ → Bool) (p : Place) → day < days → turn < 3 → load ≤ 100000 → taken (3 * day + turn) ≡ false
    → worked days (number_in types) taken p (shift_data day turn load) ≡ Ok (shift_with day turn load)
unfolding serde_json_on_literals worked
shift-reads days day turn load taken p below three most free =
    rw (
      number-reads 0 (days - 1) day (at_key keys.Day p) (omega arith) (omega arith),
      type-reads turn (at_key keys.Shift p) three,
      number-reads 0 100000 load (at_key keys.MaxLoad p) (omega arith) most,
      free,
    ) refl

-- one item more at the end of a list that reads
each-more : {A : Type 0} (c : List A → Check A) (p : Place) (ds : List Data) (d : Data) (done ys : List A) (y : A)
    → each_after done c p ds ≡ Ok ys → c ys (at_item (length ys) p) d ≡ Ok y → each_after done c p (ds ++ d ∷ []) ≡ Ok (ys ++ y ∷ [])
unfolding each_after
each-more c p [] d done ys y e h =
    let same : done ≡ ys = cc in
    rw (same, h) refl
each-more {A} c p (x ∷ ds) d done ys y e h = by_case (c done (at_item (length done) p) x) e (λ z i. each-more c p ds d (done ++ z ∷ []) ys y i h)
  where
    by_case : (r : Checked A) → (r >>= λ z. each_after (done ++ z ∷ []) c p ds) ≡ Ok ys
        → ((z : A) → each_after (done ++ z ∷ []) c p ds ≡ Ok ys → each_after (done ++ z ∷ []) c p (ds ++ d ∷ []) ≡ Ok (ys ++ y ∷ []))
        → (r >>= λ z. each_after (done ++ z ∷ []) c p (ds ++ d ∷ [])) ≡ Ok (ys ++ y ∷ [])
    by_case (Ok z) i rest = rest z i
    by_case (Err z) i rest = absurd (let no : Err z ≡ Ok ys = i in cc)

not-loaded : (ws : List WorkedShift) (w : WorkedShift) (k : ℕ) → load_in ws k ≡ None → shift_of w ≢ k → load_in (ws ++ w ∷ []) k ≡ None
not-loaded [] w k e other = rw (ne_eqb (shift_of w) k other) refl
not-loaded (v ∷ ws) w k e other = by_case (shift_of v == k) e (λ i. not-loaded ws w k i other)
  where
    by_case : (b : Bool) → (if b then Some v.max_load else load_in ws k) ≡ None → (load_in ws k ≡ None → load_in (ws ++ w ∷ []) k ≡ None)
        → (if b then Some v.max_load else load_in (ws ++ w ∷ []) k) ≡ None
    by_case true i rest = absurd (let no : Some v.max_load ≡ None = i in cc)
    by_case false i rest = rest i

abbrev pub worked_of : ℕ → List ℕ → ℕ → WorkedShift
worked_of n s d = shift_with d (turn_of n d) (5 + pick s (count_below d (works n)) 11)

-- no shift from day m on is among those of the days before it
not-worked : (n m k : ℕ) (s : List ℕ) → 3 * m ≤ k → load_in (map (worked_of n s) (which_below m (works n))) k ≡ None
unfolding which_below
not-worked n zero k s later = refl
not-worked n (suc m) k s later = by_case (works n m) refl (not-worked n m k s (omega arith))
  where
    by_case : (b : Bool) → works n m ≡ b → load_in (map (worked_of n s) (which_below m (works n))) k ≡ None
        → load_in (map (worked_of n s) (if b then which_below m (works n) ++ m ∷ [] else which_below m (works n))) k ≡ None
    by_case true w e =
        let three = ltb-true (turn_of n m) 3 w in
        rw (map-append (worked_of n s) (which_below m (works n)) (m ∷ []))
        (not-loaded (map (worked_of n s) (which_below m (works n))) (worked_of n s m) k e (λ same. omega (arith, three, same, later)))
    by_case false w e = e

shifts-read : (days n m : ℕ) (s : List ℕ) (p : Place) → m ≤ days
    → each_after [] (λ before. worked days (number_in types) (is_worked before)) p (map (worked_data n s) (which_below m (works n))) ≡ Ok (map (worked_of n s) (which_below m (works n)))
unfolding which_below each_after
shifts-read days n zero s p below = refl
shifts-read days n (suc m) s p below = by_case (works n m) refl (shifts-read days n m s p (omega arith))
  where
    check : List WorkedShift → Check WorkedShift
    check before = worked days (number_in types) (is_worked before)

    by_case : (b : Bool) → works n m ≡ b → each_after [] check p (map (worked_data n s) (which_below m (works n))) ≡ Ok (map (worked_of n s) (which_below m (works n)))
        → each_after [] check p (map (worked_data n s) (if b then which_below m (works n) ++ m ∷ [] else which_below m (works n)))
        ≡ Ok (map (worked_of n s) (if b then which_below m (works n) ++ m ∷ [] else which_below m (works n)))
    by_case true w e =
        let three = ltb-true (turn_of n m) 3 w in
        let load = pick-below s (count_below m (works n)) 11 (omega arith) in
        let before = map (worked_of n s) (which_below m (works n)) in
        let free = ap is_some (not-worked n m (3 * m + turn_of n m) s (omega arith)) in
        rw (map-append (worked_data n s) (which_below m (works n)) (m ∷ []), map-append (worked_of n s) (which_below m (works n)) (m ∷ []))
        (each-more check p (map (worked_data n s) (which_below m (works n))) (worked_data n s m) [] before (worked_of n s m) e
        (shift-reads days m (turn_of n m) (5 + pick s (count_below m (works n)) 11) (is_worked before) (at_item (length before) p) (omega arith) three (omega (arith, load)) free))
    by_case false w e = e

abbrev pub nurse_with : ℕ → ℕ → List ℕ → Nurse
nurse_with days n s = record { id = id 110 n; skill_level = pick s 0 3; working_shifts = map (worked_of n (state_after 1 s)) (which_below days (works n)) }

pub nurse-reads : (days n : ℕ) (s : List ℕ) (earlier : List ℕ → Option ℕ) (p : Place) → n < 2 ^ 32 → earlier (id 110 n) ≡ None
    → nurse days (number_in types) earlier p (nurse_data days n s) ≡ Ok (nurse_with days n s)
unfolding serde_json_on_literals nurse
nurse-reads days n s earlier p small none =
    let skill = pick-below s 0 3 (omega arith) in
    rw (
      new-id 110 n earlier (at_key keys.Id p) small none,
      number-reads 0 1000 (pick s 0 3) (at_key keys.SkillLevel p) (omega arith) (omega (arith, skill)),
      same_items (map (worked_data n (state_after 1 s)) (which_below days (works n))),
      shifts-read days n days (state_after 1 s) (at_key keys.WorkingShifts p) (omega arith),
    ) refl
