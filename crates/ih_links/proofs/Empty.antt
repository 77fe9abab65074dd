-- Links of empty lists.
use Rattle.std.proofs.Common.{◌≡◌, ℕ, zero, suc, ◌+◌, ◌<◌, ◌≤◌, refl, arith, sym, ap, ◌∙◌, subst, List, [], ◌∷◌, ◌++◌, inl, inr, Option, None, length, replicate}
use Rattle.std.specs.Prelude.{slice_index, slice_index_or}
use Rattle.std.specs.List.{range_with_len}
use Rattle.std.proofs.lemmas.Bool.{cases_lt, eq-eqb}
use Rattle.std.proofs.lemmas.List.{get_or-replicate, length-replicate, get_or_past}
use Rattle.std.proofs.lemmas.List.FromFn.{length-range_with_len, get_or-range_with_len}
use Rattle.ih_links.specs.Lists.{has, is_at}
use Rattle.ih_links.specs.Ring.{Tied, IsPath, home_of, homes_of, lists_of}
use Rattle.ih_links.proofs.Ties.{tied-lists}

same-replicate : {A : Type 0} (n i : ℕ) (d : A) → slice_index_or (replicate n d) i d ≡ d
same-replicate n i d = elim (cases_lt i n) [
  | inl below ↦ get_or-replicate n i d d below
  | inr past ↦ get_or_past (replicate n d) i d (let l = length-replicate n d in omega arith)
]

pub home-none : (most : ℕ) → home_of most most ≡ None
home-none most = let e = eq-eqb most most refl in rw e refl

-- nodes that are all in no list
homes-replicate : (most n : ℕ) → homes_of most (replicate n most) ≡ replicate n None
homes-replicate most zero = refl
homes-replicate most (suc n) =
    ap (λ h. h ∷ homes_of most (replicate n most)) (home-none most) ∙ ap (λ hs. None ∷ hs) (homes-replicate most n)

module _ (most heads nodes : ℕ) (few : nodes + heads ≤ most + 1) where
  abbrev next : List ℕ
  next = range_with_len 0 (nodes + heads)

  abbrev home : List (Option ℕ)
  home = replicate nodes None

  abbrev len : List ℕ
  len = replicate heads 0

  abbrev ls : List (List ℕ)
  ls = replicate heads []

  homes-are : length home ≡ nodes
  homes-are = length-replicate nodes None

  heads-are : length len ≡ heads
  heads-are = length-replicate heads 0

  empty : (h : ℕ) → slice_index_or ls h [] ≡ []
  empty h = same-replicate heads h []

  ring : (h : ℕ) → h < heads → IsPath (slice_index next) (slice_index next) (length home + h) (slice_index_or ls h []) (length home + h)
  ring h below =
      let n = homes-are in
      let read : slice_index next (length home + h) ≡ length home + h = get_or-range_with_len 0 (nodes + heads) (length home + h) 0 (omega arith) ∙ omega arith in
      rw (empty h) (read, read)

  pub tied-empty : Tied most next next home len ls
  tied-empty =
      let n = homes-are in
      let k = heads-are in
      let l = length-range_with_len 0 (nodes + heads) in
      let c = length-replicate {A = List ℕ} heads [] in
      record {
        nexts = omega arith;
        prevs = omega arith;
        count = omega arith;
        path = λ h below. ring h (omega arith);
        lens = λ h below. same-replicate heads h 0 ∙ sym (ap length (empty h));
        homes = λ h x. ap (has x) (empty h) ∙ sym (ap (is_at h) (same-replicate nodes x None));
        once = λ h. rw (empty h) tt;
        few = omega arith;
      }

  pub empty-lists : lists_of next home len ≡ ls
  empty-lists = tied-lists next next home len ls tied-empty

  pub empty-tied : Tied most next next home len (lists_of next home len)
  empty-tied = subst (Tied most next next home len) (sym empty-lists) tied-empty

pub range-grown : (a n : ℕ) → range_with_len a (suc n) ≡ range_with_len a n ++ (a + n) ∷ []
range-grown a zero = ap (λ k. k ∷ []) (omega arith)
range-grown a (suc n) = ap (λ ks. a ∷ ks) (range-grown (a + 1) n ∙ ap (λ k. range_with_len (a + 1) n ++ k ∷ []) (omega arith))

-- one more number is pushed
pub range-more : (n : ℕ) (xs ys : List ℕ) → xs ≡ range_with_len 0 n → ys ≡ xs ++ n ∷ [] → ys ≡ range_with_len 0 (n + 1)
range-more n xs ys is pushed =
    let none : n ≡ 0 + n = omega arith in
    let next : suc n ≡ n + 1 = omega arith in
    pushed ∙ (ap (λ ks. ks ++ n ∷ []) is ∙ (ap (λ k. range_with_len 0 n ++ k ∷ []) none ∙ (sym (range-grown 0 n) ∙ ap (range_with_len 0) next)))

module _ (most heads nodes : ℕ) (few : nodes + heads ≤ most + 1) (n p hm ln : List ℕ) (n_is : n ≡ range_with_len 0 (nodes + heads))
    (p_is : p ≡ range_with_len 0 (nodes + heads)) (hm_is : hm ≡ replicate nodes most) (ln_is : ln ≡ replicate heads 0) where
  homes : homes_of most hm ≡ replicate nodes None
  homes = ap (homes_of most) hm_is ∙ homes-replicate most nodes

  pub new-tied : Tied most n p (homes_of most hm) ln (lists_of n (homes_of most hm) ln)
  new-tied = rw (n_is, p_is, homes, ln_is) (empty-tied most heads nodes few)

  pub new-lists : lists_of n (homes_of most hm) ln ≡ replicate heads []
  new-lists = rw (n_is, homes, ln_is) (empty-lists most heads nodes few)
