-- The first of a patient's stays: on the first day, in the first room that suits, with surgery in the first theatre.
use Rattle.std.proofs.Common.{◌≡◌, ℕ, zero, suc, ◌+◌, ◌<◌, refl, sym, ◌∙◌, ap, arith, inl, inr, true, false, List, [], ◌∷◌, ◌++◌}
use Rattle.std.specs.Prelude.{cond, flat_map, Some, None, slice_get}
use Rattle.std.specs.List.{range_with_len}
use Rattle.std.proofs.lemmas.Bool.{cases_lt}
use Rattle.ih_tables.specs.declared.drafts.Draft.{Draft}
use Rattle.ih_tables.specs.declared.drafts.Patient.{Patient}
use Rattle.ih_tables.specs.Sizes.{room_count, theatre_count}
use Rattle.ih_plan.specs.declared.moves.Write.{Write}
use Rattle.ih_plan.specs.Draws.{window_len}
use Rattle.ih_fill.specs.Candidates.{placed, rooms_for, stay_writes, stays_in, stays_on, suits}
use Rattle.ih_fill.proofs.ListLemmas.{get-listed, rooms-more, stays-are}
use Rattle.ih_waiting.specs.Admissions.{admit}

-- ---- what is first in a list

head-front : {A : Type 0} (xs ys : List A) (x : A) → slice_get xs 0 ≡ Some x → slice_get (xs ++ ys) 0 ≡ Some x
head-front [] ys x e = absurd (let no : None ≡ Some x = e in cc)
head-front (z ∷ zs) ys x e = e

head-range : (s n : ℕ) → 0 < n → slice_get (range_with_len s n) 0 ≡ Some s
head-range s zero h = absurd (omega arith)
head-range s (suc n) h = refl

head-flat : {A : Type 0} (f : ℕ → List A) (ns : List ℕ) (n : ℕ) (x : A) → slice_get ns 0 ≡ Some n → slice_get (f n) 0 ≡ Some x → slice_get (flat_map f ns) 0 ≡ Some x
head-flat f [] n x first e = absurd (let no : None ≡ Some n = first in cc)
head-flat f (m ∷ ms) n x first e =
    let same : m ≡ n = (let h : Some m ≡ Some n = first in cc) in
    head-front (f m) (flat_map f ms) x (ap (λ k. slice_get (f k) 0) same ∙ e)

flat-none : {A : Type 0} (f : ℕ → List A) (ns : List ℕ) → ((n : ℕ) → f n ≡ []) → flat_map f ns ≡ []
flat-none f [] h = refl
flat-none f (n ∷ ns) h = rw (h n) (flat-none f ns h)

nothing-first : {A : Type 0} (xs : List A) → slice_get xs 0 ≡ None → xs ≡ []
nothing-first [] e = refl
nothing-first (x ∷ xs) e = absurd (let no : Some x ≡ None = e in cc)

-- ---- rooms

pub no-rooms : (a : Patient) → rooms_for a 0 ≡ []
no-rooms a = refl

pub no-room-more : (a : Patient) (r : ℕ) → rooms_for a r ≡ [] → suits a r ≡ false → rooms_for a (r + 1) ≡ []
no-room-more a r none bad = rooms-more a r ∙ rw (none, bad) refl

-- the room after those of which none suits is the first that suits
pub first-room : (a : Patient) (r n : ℕ) → rooms_for a r ≡ [] → suits a r ≡ true → r < n → slice_get (rooms_for a n) 0 ≡ Some r
first-room a r zero none good below = absurd (omega arith)
first-room a r (suc n) none good below =
    let one : suc n ≡ n + 1 = omega arith in
    ap (λ m. slice_get (rooms_for a m) 0) one
    ∙ (ap (λ rs. slice_get rs 0) (rooms-more a n)
    ∙ elim (cases_lt r n) [
      | inl before ↦ head-front (rooms_for a n) (cond (suits a n) (n ∷ []) []) r (first-room a r n none good before)
      | inr after ↦
          let same : n ≡ r = omega arith in
          rw (same, none, good) refl
    ])

-- ---- stays

pub first-stay : (I : Draft) (p : ℕ) (a : Patient) (r : ℕ) → slice_get I.patients p ≡ Some a → 0 < window_len I a → 0 < theatre_count I
    → slice_get (rooms_for a (room_count I)) 0 ≡ Some r
    → slice_get (stay_writes I p) 0 ≡ Some (admit p (placed a.surgery_release_day r 0))
first-stay I p a r e days theatres room =
    let from = a.surgery_release_day in
    let first = admit p (placed from r 0) in
    let f : ℕ → List Write = λ d. stays_on I (record { 0 = p }) a d (room_count I) in
    let g : ℕ → List Write = λ q. stays_in (record { 0 = p }) from q (theatre_count I) in
    let here : slice_get (g r) 0 ≡ Some first = get-listed (λ t. admit p (placed from r t)) 0 (theatre_count I) 0 0 theatres refl in
    ap (λ ws. slice_get ws 0) (sym (stays-are I (record { 0 = p }) a e))
    ∙ head-flat f (range_with_len from (window_len I a)) from first (head-range from (window_len I a) days)
    (head-flat g (rooms_for a (room_count I)) r first room here)

pub no-day : (I : Draft) (p : ℕ) (a : Patient) → slice_get I.patients p ≡ Some a → window_len I a ≡ 0 → slice_get (stay_writes I p) 0 ≡ None
no-day I p a e none =
    let f : ℕ → List Write = λ d. stays_on I (record { 0 = p }) a d (room_count I) in
    ap (λ ws. slice_get ws 0) (sym (stays-are I (record { 0 = p }) a e) ∙ ap (λ n. flat_map f (range_with_len a.surgery_release_day n)) none)

pub no-theatre : (I : Draft) (p : ℕ) (a : Patient) → slice_get I.patients p ≡ Some a → theatre_count I ≡ 0 → slice_get (stay_writes I p) 0 ≡ None
no-theatre I p a e none =
    let f : ℕ → List Write = λ d. stays_on I (record { 0 = p }) a d (room_count I) in
    let on : (d : ℕ) → f d ≡ [] = λ d. flat-none (λ q. stays_in (record { 0 = p }) d q (theatre_count I)) (rooms_for a (room_count I)) (λ q. rw none refl) in
    ap (λ ws. slice_get ws 0) (sym (stays-are I (record { 0 = p }) a e) ∙ flat-none f (range_with_len a.surgery_release_day (window_len I a)) on)

pub no-room : (I : Draft) (p : ℕ) (a : Patient) → slice_get I.patients p ≡ Some a → slice_get (rooms_for a (room_count I)) 0 ≡ None → slice_get (stay_writes I p) 0 ≡ None
no-room I p a e none =
    let f : ℕ → List Write = λ d. stays_on I (record { 0 = p }) a d (room_count I) in
    let on : (d : ℕ) → f d ≡ [] = λ d. ap (flat_map (λ q. stays_in (record { 0 = p }) d q (theatre_count I))) (nothing-first (rooms_for a (room_count I)) none) in
    ap (λ ws. slice_get ws 0) (sym (stays-are I (record { 0 = p }) a e) ∙ flat-none f (range_with_len a.surgery_release_day (window_len I a)) on)
