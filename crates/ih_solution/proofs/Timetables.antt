-- The timetable of the rows read so far, as the rows grow.
use Rattle.std.proofs.Common.{◌≡◌, ℕ, zero, suc, ◌*◌, ◌/◌, ◌%◌, ◌<◌, refl, arith, sym, ap, ◌∙◌, Bool, true, false, List, [], ◌∷◌, ◌++◌, inl, inr, length, get_or, replicate, Option, Some, None}
use Rattle.std.specs.Prelude.{◌≢◌, ◌==◌, ◌||◌, if◌then◌else◌, find, slice_set, option_and_then}
use Rattle.std.specs.Option.{option_or}
use Rattle.std.specs.List.{list_any}
use Rattle.std.proofs.lemmas.Bool.{cases_eq, eq-eqb, ne_eqb}
use Rattle.std.proofs.lemmas.List.{get_or-set_same, get_or-set_other, length-set, length-replicate}
use Rattle.std.proofs.lemmas.List.Folds.{find-append}
use Rattle.std.proofs.lemmas.List.FromFn.{fill_by_all, length-map-range_with_len, get_or-map-range_with_len}
use Rattle.ih_tables.specs.declared.drafts.Draft.{Draft}
use Rattle.ih_tables.specs.Sizes.{patient_count, room_count, shift_count}
use Rattle.ih_plan.specs.declared.moves.Placement.{Placement}
use Rattle.ih_plan.specs.declared.moves.Write.TheVariants.{SetStay}
use Rattle.ih_tables.specs.Listed.{listed}
use Rattle.ih_plan.specs.Timetable.{empty}
use Rattle.ih_plan.specs.Writes.{put}
use Rattle.ih_format.specs.Flags.{is_among}
use Rattle.ih_solution.specs.Reading.{stay_in, nurse_in, stays_of, cares_of, timetable_of}
use Rattle.ih_solution.specs.declared.reader.rows.ListedStay.{ListedStay}

-- ---- lists with one value for each number

pub listed-same : {A : Type 0} (n : ℕ) (f g : ℕ → Option A) → ((i : ℕ) → i < n → f i ≡ g i) → listed n f ≡ listed n g
listed-same n f g same = fill_by_all g (listed n f) n None (length-map-range_with_len f 0 n) (λ k h. get_or-map-range_with_len f 0 n k k None h (omega arith) ∙ same k h)

-- one value is replaced
pub listed-set : {A : Type 0} (n i : ℕ) (f g : ℕ → Option A) → i < n → ((j : ℕ) → j < n → j ≢ i → f j ≡ g j) → slice_set (listed n f) i (g i) ≡ listed n g
listed-set n i f g h same =
    let len : length (listed n f) ≡ n = length-map-range_with_len f 0 n in
    fill_by_all g (slice_set (listed n f) i (g i)) n None (length-set (listed n f) i (g i) ∙ len) (λ k l. elim (cases_eq k i) [
      | inl own ↦ rw own (get_or-set_same (listed n f) i (g i) None (omega (arith, len)))
      | inr other ↦ get_or-set_other (listed n f) i k (g i) None other ∙ get_or-map-range_with_len f 0 n k k None l (omega arith) ∙ same k l other
    ])

-- ---- what one more row finds

pub find_none : {A : Type 0} (q : A → Bool) (xs : List A) → list_any q xs ≡ false → find q xs ≡ None
find_none q [] h = refl
find_none {A} q (x ∷ xs) h = by_case (q x) (λ e. find_none q xs e) h
  where
    by_case : (b : Bool) → (list_any q xs ≡ false → find q xs ≡ None) → (b || list_any q xs) ≡ false → (if b then Some x else find q xs) ≡ None
    by_case true rest h = absurd (let no : true ≡ false = h in cc)
    by_case false rest h = rest h

or_none : {A : Type 0} (o : Option A) → option_or o None ≡ o
or_none None = refl
or_none (Some x) = refl

pub find-last : {A : Type 0} (q : A → Bool) (xs : List A) (x : A) → q x ≡ true → find q xs ≡ None → find q (xs ++ x ∷ []) ≡ Some x
find-last q xs x h none = find-append q xs (x ∷ []) ∙ rw (none, h) refl

pub find-not_last : {A : Type 0} (q : A → Bool) (xs : List A) (x : A) → q x ≡ false → find q (xs ++ x ∷ []) ≡ find q xs
find-not_last q xs x h = find-append q xs (x ∷ []) ∙ rw (h) (or_none (find q xs))

-- ---- patients

abbrev number : ListedStay → ℕ
number row = row.patient.0

-- one more patient's row is one more stay
pub stays-more : (I : Draft) (rows : List ListedStay) (row : ListedStay) → row.patient.0 < patient_count I → is_among number rows row.patient.0 ≡ false
    → timetable_of I (rows ++ row ∷ []) [] ≡ put (SetStay row.patient row.stay) (timetable_of I rows [])
unfolding stays_of
stays-more I rows row inside new =
    let p = row.patient.0 in
    let none = find_none (λ (x : ListedStay). number x == p) rows new in
    let here : stay_in (rows ++ row ∷ []) p ≡ row.stay = ap (option_and_then (λ (x : ListedStay). x.stay)) (find-last (λ (x : ListedStay). number x == p) rows row (eq-eqb p p refl) none) in
    let set = listed-set (patient_count I) p (stay_in rows) (stay_in (rows ++ row ∷ [])) inside (λ j l other.
    ap (option_and_then (λ (x : ListedStay). x.stay)) (sym (find-not_last (λ (x : ListedStay). number x == j) rows row (ne_eqb p j (λ e. other (sym e)))))) in
    ap (λ (s : List (Option Placement)). record (timetable_of I rows []) { stays = s }) (sym (rw here at set))

-- ---- no rows

none_there : {A : Type 0} (n k : ℕ) (o : Option A) → o ≡ None → get_or (replicate n o) k None ≡ None
none_there zero k o e = refl
none_there (suc n) zero o e = e
none_there (suc n) (suc k) o e = none_there n k o e

all_none : {A : Type 0} (n : ℕ) (f : ℕ → Option A) → ((i : ℕ) → f i ≡ None) → replicate n None ≡ listed n f
all_none n f h = fill_by_all f (replicate n None) n None (length-replicate n None) (λ k l. none_there n k None refl ∙ sym (h k))

pub no-rows : (I : Draft) → empty I ≡ timetable_of I [] []
unfolding stays_of cares_of
no-rows I = rw (all_none (patient_count I) (stay_in []) (λ i. refl), all_none (shift_count I * room_count I) (λ i. nurse_in [] (i / shift_count I) (i % shift_count I)) (λ i. refl)) refl
