-- The writes of a run, shift by shift.
use Rattle.std.proofs.Common.{◌≡◌, ℕ, zero, suc, ◌+◌, ◌-◌, ◌*◌, ◌/◌, ◌<◌, ◌≤◌, refl, sym, ◌∙◌, ap, arith, Bool, true, false, List, [], ◌∷◌, ◌++◌, Some, map}
use Rattle.std.specs.Prelude.{if◌then◌else◌, cond, filter, is_some, ◌&&◌}
use Rattle.std.specs.List.{range_with_len}
use Rattle.std.proofs.Common.{inl, inr, min}
use Rattle.std.proofs.lemmas.Bool.{cases_lt}
use Rattle.std.proofs.lemmas.List.FromFn.{filter_of_map_range_with_len_more}
use Rattle.std.proofs.lemmas.List.{map-id}
use Rattle.ih_tables.specs.declared.drafts.Draft.{Draft}
use Rattle.ih_tables.specs.declared.ids.NurseNo.{NurseNo}
use Rattle.ih_tables.specs.declared.ids.RoomNo.{RoomNo}
use Rattle.ih_tables.specs.Works.{max_load}
use Rattle.ih_plan.specs.declared.moves.Write.{Write}
use Rattle.ih_plan.specs.declared.moves.Write.TheVariants.{SetCare}
use Rattle.ih_plan.specs.Presence.{in_span}
use Rattle.ih_plan.specs.Expand.{in_run}
use Rattle.ih_plan.proofs.Spans.{span-outside}
use Rattle.ih_moves.specs.Runs.{run_below}

filter-more : (p : ℕ → Bool) (n : ℕ) → filter p (range_with_len 0 (n + 1)) ≡ filter p (range_with_len 0 n) ++ cond (p n) (n ∷ []) []
filter-more p n =
    let e = filter_of_map_range_with_len_more p (λ (i : ℕ). i) 0 n n (omega arith) in
    rw (← map-id (range_with_len 0 (n + 1)), ← map-id (range_with_len 0 n)) e

map-push : (f : ℕ → Write) (xs : List ℕ) (y : ℕ) → map f (xs ++ y ∷ []) ≡ map f xs ++ f y ∷ []
map-push f [] y = refl
map-push f (x ∷ xs) y = ap (λ (ys : List Write). f x ∷ ys) (map-push f xs y)

map-none : (f : ℕ → Write) (xs : List ℕ) → map f (xs ++ []) ≡ map f xs
map-none f [] = refl
map-none f (x ∷ xs) = ap (λ (ys : List Write). f x ∷ ys) (map-none f xs)

pub run-zero : (I : Draft) (n : NurseNo) (r : RoomNo) (d len : ℕ) → run_below I n r d len 0 ≡ []
unfolding run_below
run-zero I n r d len = refl

pub run-more : (I : Draft) (n : NurseNo) (r : RoomNo) (d len k : ℕ)
    → run_below I n r d len (k + 1) ≡ (if in_run I n d len k then run_below I n r d len k ++ SetCare r (record { 0 = k }) (Some n) ∷ [] else run_below I n r d len k)
unfolding run_below
run-more I n r d len k = rw (filter-more (in_run I n d len) k) (by_case (in_run I n d len k))
  where
    write : ℕ → Write
    write i = SetCare r (record { 0 = i }) (Some n)

    by_case : (b : Bool) → map write (filter (in_run I n d len) (range_with_len 0 k) ++ cond b (k ∷ []) [])
        ≡ (if b then map write (filter (in_run I n d len) (range_with_len 0 k)) ++ write k ∷ [] else map write (filter (in_run I n d len) (range_with_len 0 k)))
    by_case true = map-push write (filter (in_run I n d len) (range_with_len 0 k)) k
    by_case false = map-none write (filter (in_run I n d len) (range_with_len 0 k))

and-none : (a b : Bool) → b ≡ false → (a && b) ≡ false
and-none true b e = e
and-none false b e = refl

out-of : (I : Draft) (n : NurseNo) (d len k : ℕ) → (d ≤ k / 3 → k / 3 < d + len → ⊥) → in_run I n d len k ≡ false
out-of I n d len k h = and-none (is_some (max_load I n.0 k)) (in_span d (d + len) (k / 3)) (span-outside d (d + len) (k / 3) h)

pub run-before : (I : Draft) (n : NurseNo) (r : RoomNo) (d len k : ℕ) → k ≤ 3 * d → run_below I n r d len k ≡ []
run-before I n r d len zero h = run-zero I n r d len
run-before I n r d len (suc k) h =
    let out = out-of I n d len k (λ a b. omega arith) in
    let rest = run-before I n r d len k (omega arith) in
    let step = run-more I n r d len k in
    let one : suc k ≡ k + 1 = omega arith in
    rw (one, step, out) rest

pub run-past : (I : Draft) (n : NurseNo) (r : RoomNo) (d len k : ℕ) → run_below I n r d len (3 * (d + len) + k) ≡ run_below I n r d len (3 * (d + len))
run-past I n r d len zero = ap (λ (i : ℕ). run_below I n r d len i) (omega arith)
run-past I n r d len (suc k) =
    let out = out-of I n d len (3 * (d + len) + k) (λ a b. omega arith) in
    let rest = run-past I n r d len k in
    let step = run-more I n r d len (3 * (d + len) + k) in
    let one : 3 * (d + len) + suc k ≡ 3 * (d + len) + k + 1 = omega arith in
    rw (one, step, out) rest

-- past its last day a run has no more writes
pub run-end : (I : Draft) (n : NurseNo) (r : RoomNo) (d len m s : ℕ) → 3 * (d + len) ≤ m → m ≤ s → run_below I n r d len s ≡ run_below I n r d len m
run-end I n r d len m s h j =
    let a = run-past I n r d len (s - 3 * (d + len)) in
    let b = run-past I n r d len (m - 3 * (d + len)) in
    let one : 3 * (d + len) + (s - 3 * (d + len)) ≡ s = omega arith in
    let two : 3 * (d + len) + (m - 3 * (d + len)) ≡ m = omega arith in
    (rw one at a) ∙ sym (rw two at b)

pub run-whole : (I : Draft) (n : NurseNo) (r : RoomNo) (d len m s : ℕ) → m ≡ min (3 * (d + len)) s → run_below I n r d len s ≡ run_below I n r d len m
run-whole I n r d len m s e = elim (cases_lt s (3 * (d + len))) [
  | inl above ↦ let same : s ≡ m = omega arith in ap (λ (i : ℕ). run_below I n r d len i) same
  | inr within ↦ run-end I n r d len m s (omega arith) (omega arith)
]

pub ruleset run_steps = (run-zero, run-more)
