-- Paths of links: what stands on one, and what a changed link leaves of it.
use Rattle.std.proofs.Common.{◌≡◌, ℕ, refl, sym, ap, ◌∙◌, Bool, true, false, List, [], ◌∷◌, ◌++◌, inl, inr, Some, None, length}
use Rattle.std.specs.Prelude.{◌==◌, ◌⊎◌, if◌then◌else◌}
use Rattle.std.proofs.lemmas.Bool.{cases_eq, eq-eqb, ne_eqb}
use Rattle.ih_links.specs.Lists.{has, without, IsOnce, following, first_of}
use Rattle.ih_links.specs.Ring.{IsPath, walk}
use Rattle.ih_links.proofs.Members.{has-here, has-there, has-cases, lacks, apart, without-here, without-there, without-none}

pub walk-path : (f g : ℕ → ℕ) (a : ℕ) (xs : List ℕ) (b : ℕ) → IsPath f g a xs b → walk f (length xs) (f a) ≡ xs
walk-path f g a [] b p = refl
walk-path f g a (x ∷ xs) b p = rw p.0 (ap (λ ys. x ∷ ys) (walk-path f g x xs b p.1.1))

-- the last on the path
pub last-in : (f g : ℕ → ℕ) (a : ℕ) (xs : List ℕ) (b : ℕ) → IsPath f g a xs b → has (g b) (a ∷ xs) ≡ true
last-in f g a [] b p = has-here (g b) a [] (sym p.1)
last-in f g a (x ∷ xs) b p = has-there (g b) a (x ∷ xs) (last-in f g x xs b p.1.1)

-- what stands before a member
pub before-in : (f g : ℕ → ℕ) (a : ℕ) (xs : List ℕ) (b n : ℕ) → IsPath f g a xs b → has n xs ≡ true → has (g n) (a ∷ xs) ≡ true
before-in f g a [] b n p h = absurd (cc)
before-in f g a (x ∷ xs) b n p h = elim (has-cases n x xs h) [
  | inl e ↦ has-here (g n) a (x ∷ xs) (sym p.1.0 ∙ ap g e)
  | inr there ↦ has-there (g n) a (x ∷ xs) (before-in f g x xs b n p.1.1 there)
]

-- what stands behind a
pub first-in : (f g : ℕ → ℕ) (a : ℕ) (xs : List ℕ) (b : ℕ) → IsPath f g a xs b → (f a ≡ b) ⊎ (has (f a) xs ≡ true)
first-in f g a [] b p = inl p.0
first-in f g a (x ∷ xs) b p = inr (has-here (f a) x xs (sym p.0))

-- what stands behind a member
pub behind-in : (f g : ℕ → ℕ) (a : ℕ) (xs : List ℕ) (b n : ℕ) → IsPath f g a xs b → has n xs ≡ true → (f n ≡ b) ⊎ (has (f n) xs ≡ true)
behind-in f g a [] b n p h = absurd (cc)
behind-in f g a (x ∷ xs) b n p h = elim (has-cases n x xs h) [
  | inl e ↦ elim (first-in f g x xs b p.1.1) [
    | inl end ↦ inl (ap f (sym e) ∙ end)
    | inr inside ↦ inr (has-there (f n) x xs (ap (λ k. has (f k) xs) (sym e) ∙ inside))
  ]
  | inr there ↦ elim (behind-in f g x xs b n p.1.1 there) [ inl end ↦ inl end | inr inside ↦ inr (has-there (f n) x xs inside) ]
]

-- the first number is read off the link, where the end is told apart by a test
pub first-read : (f g : ℕ → ℕ) (a : ℕ) (xs : List ℕ) (b : ℕ) → IsPath f g a xs b → ((f a ≡ b) × (first_of xs ≡ None)) ⊎ ((has (f a) xs ≡ true) × (first_of xs ≡ Some (f a)))
first-read f g a [] b p = inl (p.0, refl)
first-read f g a (x ∷ xs) b p = inr (has-here (f a) x xs (sym p.0), ap (λ k. Some k) (sym p.0))

pub following-here : (n x : ℕ) (xs : List ℕ) → x ≡ n → following n (x ∷ xs) ≡ first_of xs
following-here n x xs e = let t = eq-eqb x n e in by_case (x == n) t
  where
    by_case : (b : Bool) → b ≡ true → (if b then first_of xs else following n xs) ≡ first_of xs
    by_case true _ = refl
    by_case false h = absurd (cc)

pub following-there : (n x : ℕ) (xs : List ℕ) → (x ≡ n → ⊥) → following n (x ∷ xs) ≡ following n xs
following-there n x xs e = let t = ne_eqb x n e in by_case (x == n) t
  where
    by_case : (b : Bool) → b ≡ false → (if b then first_of xs else following n xs) ≡ following n xs
    by_case true h = absurd (cc)
    by_case false _ = refl

pub following-read : (f g : ℕ → ℕ) (a : ℕ) (xs : List ℕ) (b n : ℕ) → IsPath f g a xs b → has n xs ≡ true
    → ((f n ≡ b) × (following n xs ≡ None)) ⊎ ((has (f n) xs ≡ true) × (following n xs ≡ Some (f n)))
following-read f g a [] b n p h = absurd (cc)
following-read f g a (x ∷ xs) b n p h = elim (cases_eq x n) [
  | inl e ↦ elim (first-read f g x xs b p.1.1) [
    | inl q ↦ inl (ap f (sym e) ∙ q.0, following-here n x xs e ∙ q.1)
    | inr q ↦ inr (has-there (f n) x xs (ap (λ k. has (f k) xs) (sym e) ∙ q.0), following-here n x xs e ∙ (q.1 ∙ ap (λ k. Some (f k)) e))
  ]
  | inr ne ↦ elim (has-cases n x xs h) [
    | inl e ↦ absurd (ne e)
    | inr there ↦ elim (following-read f g x xs b n p.1.1 there) [
      | inl q ↦ inl (q.0, following-there n x xs ne ∙ q.1)
      | inr q ↦ inr (has-there (f n) x xs q.0, following-there n x xs ne ∙ q.1)
    ]
  ]
]

-- a path whose links stay
pub path-kept : (f g f' g' : ℕ → ℕ) (a : ℕ) (xs : List ℕ) (b : ℕ) → IsPath f g a xs b → ((u : ℕ) → has u (a ∷ xs) ≡ true → f' u ≡ f u)
    → ((v : ℕ) → has v xs ≡ true → g' v ≡ g v) → g' b ≡ g b → IsPath f' g' a xs b
path-kept f g f' g' a [] b p ahead back end = (ahead a (has-here a a [] refl) ∙ p.0, end ∙ p.1)
path-kept f g f' g' a (x ∷ xs) b p ahead back end = (
  ahead a (has-here a a (x ∷ xs) refl) ∙ p.0,
  (
    back x (has-here x x xs refl) ∙ p.1.0,
    path-kept f g f' g' x xs b p.1.1 (λ u h. ahead u (has-there u a (x ∷ xs) h)) (λ v h. back v (has-there v x xs h)) end,
  ),
)

-- n has come in before b
pub record Pushed (f g f' g' : ℕ → ℕ) (n b : ℕ) : Type 0 where
  pub from_last : f' (g b) ≡ n
  pub to_node : g' n ≡ g b
  pub from_node : f' n ≡ b
  pub to_end : g' b ≡ n
  pub ahead : (u : ℕ) → (u ≡ g b → ⊥) → (u ≡ n → ⊥) → f' u ≡ f u
  pub back : (v : ℕ) → (v ≡ n → ⊥) → (v ≡ b → ⊥) → g' v ≡ g v

pub path-pushed : (f g f' g' : ℕ → ℕ) (n a : ℕ) (xs : List ℕ) (b : ℕ) → Pushed f g f' g' n b → IsPath f g a xs b → IsOnce xs → has a xs ≡ false
    → has b xs ≡ false → has n xs ≡ false → (n ≡ a → ⊥) → IsPath f' g' a (xs ++ n ∷ []) b
path-pushed f g f' g' n a [] b s p o na nb nn apart_a = (ap f' (sym p.1) ∙ s.from_last, (s.to_node ∙ p.1, (s.from_node, s.to_end)))
path-pushed f g f' g' n a (x ∷ xs) b s p o na nb nn apart_a =
    let last = last-in f g x xs b p.1.1 in
    let other : a ≡ g b → ⊥ = λ e. apart (g b) a (x ∷ xs) last na (sym e) in
    let of_a = lacks a x xs na in
    let of_b = lacks b x xs nb in
    let of_n = lacks n x xs nn in (
      s.ahead a other (λ e. apart_a (sym e)) ∙ p.0,
      (
        s.back x of_n.0 of_b.0 ∙ p.1.0,
        path-pushed f g f' g' n x xs b s p.1.1 o.1 o.0 of_b.1 of_n.1 (λ e. of_n.0 (sym e)),
      ),
    )

-- n has been passed over
pub record Passed (f g f' g' : ℕ → ℕ) (n : ℕ) : Type 0 where
  pub over : f' (g n) ≡ f n
  pub under : g' (f n) ≡ g n
  pub ahead : (u : ℕ) → (u ≡ g n → ⊥) → f' u ≡ f u
  pub back : (v : ℕ) → (v ≡ f n → ⊥) → g' v ≡ g v

-- the path from n on, begun at what stands before n
path-rejoined : (f g f' g' : ℕ → ℕ) (n : ℕ) (xs : List ℕ) (b : ℕ) → Passed f g f' g' n → IsPath f g n xs b → IsOnce xs
    → has (g n) xs ≡ false → has b xs ≡ false → IsPath f' g' (g n) xs b
path-rejoined f g f' g' n [] b s p o na nb = (s.over ∙ p.0, ap g' (sym p.0) ∙ s.under)
path-rejoined f g f' g' n (y ∷ ys) b s p o na nb =
    let of_b = lacks b y ys nb in (
      s.over ∙ p.0,
      (
        ap g' (sym p.0) ∙ s.under,
        path-kept f g f' g' y ys b p.1.1 (λ u h. s.ahead u (apart u (g n) (y ∷ ys) h na))
            (λ v h. s.back v (λ e. apart v y ys h o.0 (e ∙ p.0))) (s.back b (λ e. of_b.0 (sym (e ∙ p.0)))),
      ),
    )

pub path-passed : (f g f' g' : ℕ → ℕ) (n a : ℕ) (xs : List ℕ) (b : ℕ) → Passed f g f' g' n → IsPath f g a xs b → IsOnce xs → has a xs ≡ false
    → has b xs ≡ false → has n xs ≡ true → IsPath f' g' a (without n xs) b
path-passed f g f' g' n a [] b s p o na nb h = absurd (cc)
path-passed f g f' g' n a (x ∷ xs) b s p o na nb h =
    let of_a = lacks a x xs na in
    let of_b = lacks b x xs nb in
    elim (cases_eq x n) [
      | inl e ↦
          let gone = without-none n xs (rw (← e) o.0) in
          let from_n : IsPath f g n xs b = rw (← e) p.1.1 in
          let before : g n ≡ a = ap g (sym e) ∙ p.1.0 in
          rw (without-here n x xs e, gone, ← before) (path-rejoined f g f' g' n xs b s from_n o.1 (ap (λ k. has k xs) before ∙ of_a.1) of_b.1)
      | inr ne ↦ elim (has-cases n x xs h) [
        | inl e ↦ absurd (ne e)
        | inr there ↦
            let before = before-in f g x xs b n p.1.1 there in
            let to_x : x ≡ f n → ⊥ = λ e. elim (behind-in f g x xs b n p.1.1 there) [
              | inl end ↦ of_b.0 (e ∙ end)
              | inr inside ↦ apart (f n) x xs inside o.0 (sym e)
            ] in
            rw (without-there n x xs ne) (
              s.ahead a (λ e. apart (g n) a (x ∷ xs) before na (sym e)) ∙ p.0,
              (
                s.back x to_x ∙ p.1.0,
                path-passed f g f' g' n x xs b s p.1.1 o.1 o.0 of_b.1 there,
              ),
            )
      ]
    ]
