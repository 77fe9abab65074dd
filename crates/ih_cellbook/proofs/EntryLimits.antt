-- How many entries a legal history has: at most one for each try of each attempt of each worker.
use Rattle.std.proofs.Common.{◌≡◌, ℕ, zero, suc, ◌+◌, ◌*◌, ◌<◌, ◌≤◌, refl, arith, sym, ap, ◌∙◌, subst, Bool, true, false, List, [], ◌∷◌, ◌++◌, length, take, inl, inr, Some}
use Rattle.std.specs.Prelude.{◌⊎◌, if◌then◌else◌, ◌&&◌, not, ◌==◌, slice_get}
use Rattle.std.proofs.Math.Nat.{mul_assoc}
use Rattle.std.proofs.lemmas.Bool.{cases_eq, cases_lt, le-ltb, eq-eqb, ne_eqb}
use Rattle.std.proofs.lemmas.List.{take_all}
use Rattle.std.proofs.lemmas.Nat.{mul-le}
use Rattle.ih_plan.specs.Sums.{bit, sum_below}
use Rattle.ih_plan.proofs.SumLemmas.{sum_below-le, sum_below-same}
use Rattle.ih_plan.proofs.SumBounds.{sum_below-add, sum_below-none}
use Rattle.ih_journal.specs.declared.settings.Options.{Options}
use Rattle.ih_journal.specs.Tried.{Tried}
use Rattle.ih_journal.specs.Attempts.{TryNumber, try_after, last_by, is_done, is_retried, is_stale, next_try}
use Rattle.ih_journal.specs.Base.{Base}
use Rattle.ih_journal.specs.Legal.{IsLegalButDraw}
use Rattle.ih_journal.proofs.Growth.{attempt-parts, last_by-own, last_by-other}
use Rattle.ih_cellbook.specs.Laws.{AreFew}
use Rattle.ih_cellbook.specs.Legal.{AreLegalButDraws}

-- how many of the entries are by worker w
abbrev pub made : ℕ → List Tried → ℕ
made w [] = 0
made w (e ∷ es) = bit (e.worker == w) + made w es

made-more : (w : ℕ) (H : List Tried) (e : Tried) → made w (H ++ e ∷ []) ≡ made w H + bit (e.worker == w)
made-more w [] e = omega arith
made-more w (x ∷ xs) e = let rest = made-more w xs e in omega (arith, rest)

-- ---- one worker's tries, in order

-- the place of a try among all tries of a worker's attempts
abbrev rank : Options → TryNumber → ℕ
rank o a = a.number * (o.retries + 1) + a.again

-- how far worker w has come in the entries G
record IsAlong (o : Options) (G : List Tried) (w : ℕ) : Type 0 where
  most : made w G ≤ rank o (try_after o (last_by w G))
  within : rank o (try_after o (last_by w G)) ≤ o.moves * (o.retries + 1)
  again : (try_after o (last_by w G)).again ≤ o.retries
  more : is_done o G w ≡ false → (try_after o (last_by w G)).number < o.moves

along-none : (o : Options) (w : ℕ) → IsAlong o [] w
unfolding last_by is_done
along-none o w = record {
  most = omega arith;
  within = omega arith;
  again = omega arith;
  more = λ h. some-moves o.moves h;
}
  where
    some-moves : (n : ℕ) → (n == 0) ≡ false → 0 < n
    some-moves zero h = absurd (let no : true ≡ false = h in cc)
    some-moves (suc n) h = omega arith

-- the next try, and that after it
module _ (o : Options) (e : Tried) (below : e.number < o.moves) (few : e.again ≤ o.retries) where
  next-row : (e.number + 1) * (o.retries + 1) ≤ o.moves * (o.retries + 1)
  next-row = mul-le (e.number + 1) (o.retries + 1) o.moves (o.retries + 1) (omega arith) (omega arith)

  row-is : (e.number + 1) * (o.retries + 1) ≡ e.number * (o.retries + 1) + (o.retries + 1)
  row-is = omega arith

  try-next : (t : Bool) → (t ≡ true → e.again < o.retries)
      → let a : TryNumber = (if t then record { number = e.number; again = e.again + 1 } else record { number = e.number + 1; again = 0 }) in
      (e.number * (o.retries + 1) + e.again + 1 ≤ rank o a) × (rank o a ≤ o.moves * (o.retries + 1)) × (a.again ≤ o.retries)
  try-next true h = let less = h refl in let row = next-row in let is = row-is in (omega arith, omega (arith, less, row, is), omega (arith, less))
  try-next false h = let row = next-row in let is = row-is in (omega (arith, is), omega (arith, row), omega arith)

  not-last : (t : Bool) → (if o.moves == 0 then true else (e.number + 1 == o.moves) && not t) ≡ false
      → (let a : TryNumber = (if t then record { number = e.number; again = e.again + 1 } else record { number = e.number + 1; again = 0 }) in a.number) < o.moves
  not-last true h = below
  not-last false h = elim (cases_eq (e.number + 1) o.moves) [
    | inl last ↦ absurd (let some : (o.moves == 0) ≡ false = ne_eqb o.moves 0 (λ z. omega arith) in let no : true ≡ false = rw (some, eq-eqb (e.number + 1) o.moves last) at h in cc)
    | inr other ↦ omega (arith, other)
  ]

retried-less : (o : Options) (e : Tried) → is_retried o e ≡ true → e.again < o.retries
retried-less o e h = elim (cases_lt e.again o.retries) [
  | inl less ↦ less
  | inr over ↦ absurd (by_case (is_stale e.verdict) (rw (le-ltb e.again o.retries over) at h))
]
  where
    by_case : (t : Bool) → (t && false) ≡ true → ⊥
    by_case true h = let no : false ≡ true = h in cc
    by_case false h = let no : false ≡ true = h in cc

along-other : (o : Options) (G : List Tried) (e : Tried) (w : ℕ) → (e.worker ≡ w → ⊥) → IsAlong o G w → IsAlong o (G ++ e ∷ []) w
unfolding is_done
along-other o G e w other along =
    let last = last_by-other G e w other in
    let count = made-more w G e in
    let none : bit (e.worker == w) ≡ 0 = rw (ne_eqb e.worker w other) refl in
    let most = along.most in
    record {
      most = rw last (omega (arith, count, none, most));
      within = rw last along.within;
      again = rw last along.again;
      more = rw last along.more;
    }

along-own : (b : Base) (G : List Tried) (e : Tried) (w : ℕ) → e.worker ≡ w → IsLegalButDraw b G e → IsAlong b.options G w → IsAlong b.options (G ++ e ∷ []) w
unfolding is_done
along-own b G e w own legal along =
    let o : Options = b.options in
    let last = last_by-own G e w own in
    let attempt = legal.attempt in
    let parts = attempt-parts b.options G w (record { number = e.number; again = e.again }) (ap (next_try b.options G) (sym own) ∙ attempt) in
    let below : e.number < b.options.moves = subst (λ (a : TryNumber). a.number < b.options.moves) parts.1 (along.more parts.0) in
    let few : e.again ≤ b.options.retries = subst (λ (a : TryNumber). a.again ≤ b.options.retries) parts.1 along.again in
    let before : made w G ≤ e.number * (b.options.retries + 1) + e.again = subst (λ (a : TryNumber). made w G ≤ rank b.options a) parts.1 along.most in
    let next = try-next b.options e below few (is_retried b.options e) (retried-less b.options e) in
    let count = made-more w G e in
    let one : bit (e.worker == w) ≡ 1 = rw (eq-eqb e.worker w own) refl in
    let step = next.0 in
    record {
      most = rw last (omega (arith, count, one, before, step));
      within = rw last next.1;
      again = rw last next.2;
      more = rw last (not-last b.options e below few (is_retried b.options e));
    }

along-more : (b : Base) (G : List Tried) (e : Tried) (w : ℕ) → IsLegalButDraw b G e → IsAlong b.options G w → IsAlong b.options (G ++ e ∷ []) w
along-more b G e w legal along = elim (cases_eq e.worker w) [
  | inl own ↦ along-own b G e w own legal along
  | inr other ↦ along-other b.options G e w other along
]

-- ---- the whole history

-- one entry more of the list, where there is one
pub take-one : (H : List Tried) (k : ℕ) → ((e : Tried) × ((slice_get H k ≡ Some e) × (take (suc k) H ≡ take k H ++ e ∷ []))) ⊎ (take (suc k) H ≡ take k H)
take-one [] zero = inr refl
take-one [] (suc k) = inr refl
take-one (x ∷ xs) zero = inl (x, (refl, refl))
take-one (x ∷ xs) (suc k) = elim (take-one xs k) [
  | inl more ↦ inl (more.0, (more.1.0, ap (λ ys. x ∷ ys) more.1.1))
  | inr end ↦ inr (ap (λ ys. x ∷ ys) end)
]

along-front : (b : Base) (H : List Tried) (w : ℕ) → AreLegalButDraws b H → (k : ℕ) → IsAlong b.options (take k H) w
along-front b H w legal zero = along-none b.options w
along-front b H w legal (suc k) = elim (take-one H k) [
  | inl more ↦ subst (λ G. IsAlong b.options G w) (sym more.1.1) (along-more b (take k H) more.0 w (legal k more.0 more.1.0) (along-front b H w legal k))
  | inr end ↦ subst (λ G. IsAlong b.options G w) (sym end) (along-front b H w legal k)
]

along-all : (b : Base) (H : List Tried) (w : ℕ) → AreLegalButDraws b H → IsAlong b.options H w
along-all b H w legal = subst (λ G. IsAlong b.options G w) (take_all (length H) H (omega arith)) (along-front b H w legal (length H))

-- ---- all workers

one-of : (n k : ℕ) → k < n → sum_below n (λ w. bit (k == w)) ≡ 1
unfolding sum_below
one-of zero k h = absurd (omega arith)
one-of (suc n) k h = elim (cases_eq k n) [
  | inl last ↦
      let before = sum_below-same n (λ w. bit (k == w)) (λ w. 0) (λ w l. rw (ne_eqb k w (λ e. omega arith)) refl) in
      let none = sum_below-none n in
      rw (eq-eqb k n last) (omega (arith, before, none))
  | inr other ↦ let rest = one-of n k (omega arith) in rw (ne_eqb k n other) (omega (arith, rest))
]

made-all : (W : ℕ) (H : List Tried) → ((k : ℕ) (e : Tried) → slice_get H k ≡ Some e → e.worker < W) → sum_below W (λ w. made w H) ≡ length H
made-all W [] known = sum_below-none W
made-all W (e ∷ es) known =
    let first = one-of W e.worker (known 0 e refl) in
    let rest = made-all W es (λ k f h. known (suc k) f h) in
    let split = sum_below-add W (λ w. bit (e.worker == w)) (λ w. made w es) in
    omega (arith, first, rest, split)

sum-less : (n b k : ℕ) (f : ℕ → ℕ) → k < n → ((i : ℕ) → i < n → f i ≤ b) → f k < b → sum_below n f < n * b
unfolding sum_below
sum-less zero b k f h most less = absurd (omega arith)
sum-less (suc n) b k f h most less = elim (cases_eq k n) [
  | inl last ↦
      let rest = sum_below-le n b f (λ i l. most i (omega arith)) in
      let here : f n < b = subst (λ i. f i < b) last less in
      omega (arith, rest, here)
  | inr other ↦
      let rest = sum-less n b k f (omega arith) (λ i l. most i (omega arith)) less in
      let here = most n (omega arith) in
      omega (arith, rest, here)
]

row-less : (n m r a : ℕ) → n < m → a ≤ r → n * (r + 1) + a < m * (r + 1)
row-less n m r a h few =
    let row = mul-le (n + 1) (r + 1) m (r + 1) (omega arith) (omega arith) in
    let is : (n + 1) * (r + 1) ≡ n * (r + 1) + (r + 1) = omega arith in
    omega (arith, row, is)

pub legal-few : (b : Base) (H : List Tried) → AreLegalButDraws b H → AreFew b H
legal-few b H legal =
    let o : Options = b.options in
    let each = λ (w : ℕ). along-all b H w legal in
    let few = λ (w : ℕ). let most = (each w).most in let within = (each w).within in let all : made w H ≤ b.options.moves * (b.options.retries + 1) = omega (arith, most, within) in all in
    let count = made-all b.options.workers H (λ k e h. (legal k e h).worker) in
    let product = mul_assoc b.options.workers b.options.moves (b.options.retries + 1) in
    record {
      most = let sum = sum_below-le b.options.workers (b.options.moves * (b.options.retries + 1)) (λ w. made w H) (λ w h. few w) in omega (arith, count, product, sum);
      fewer = λ w known going.
          let along = each w in
          let most = along.most in
          let next = row-less (try_after b.options (last_by w H)).number b.options.moves b.options.retries (try_after b.options (last_by w H)).again (along.more going) along.again in
          let own : made w H < b.options.moves * (b.options.retries + 1) = omega (arith, most, next) in
          let sum = sum-less b.options.workers (b.options.moves * (b.options.retries + 1)) w (λ v. made v H) known (λ v h. few v) own in
          omega (arith, count, product, sum);
    }

-- the numbers of a worker's next try
pub next-below : (b : Base) (H : List Tried) (w : ℕ) (a : TryNumber) → AreLegalButDraws b H → next_try b.options H w ≡ Some a
    → (a.number < b.options.moves) × (a.again ≤ b.options.retries) × (is_done b.options H w ≡ false)
next-below b H w a legal e =
    let parts = attempt-parts b.options H w a e in
    let along = along-all b H w legal in (
      subst (λ (x : TryNumber). x.number < b.options.moves) parts.1 (along.more parts.0),
      subst (λ (x : TryNumber). x.again ≤ b.options.retries) parts.1 along.again,
      parts.0,
    )

pub again-few : (b : Base) (H : List Tried) (w : ℕ) → AreLegalButDraws b H → (try_after b.options (last_by w H)).again ≤ b.options.retries
again-few b H w legal = (along-all b H w legal).again
