-- The first least of candidates, share by share.
use Rattle.std.proofs.Common.{◌≡◌, ℕ, ◌+◌, ◌%◌, ◌<◌, ◌≤◌, refl, sym, ap, ◌∙◌, subst, arith, inl, inr, List, [], ◌∷◌, ◌++◌, length, Option, Some, None}
use Rattle.std.specs.Prelude.{ℤ, ◌⊎◌, IfSome, slice_get}
use Rattle.std.proofs.lemmas.Bool.{cases_lt}
use Rattle.std.proofs.lemmas.List.{length-append}
use Rattle.std.proofs.lemmas.Option.{slice_get_within}
use Rattle.std.proofs.Math.Nat.{mod-lt}
use Rattle.ih_tables.specs.declared.drafts.Draft.{Draft}
use Rattle.ih_plan.specs.declared.moves.Write.{Write}
use Rattle.ih_plan.specs.Writes.{IsWriteOf}
use Rattle.ih_plan.proofs.ReadLemmas.{get-last}
use Rattle.ih_fill.specs.declared.candidates.Candidate.{Candidate}
use Rattle.ih_fill.specs.Candidates.{valued, least_of}
use Rattle.ih_fill.specs.FirstLeast.{AnyPlace, IsBefore}
use Rattle.ih_fill.proofs.FirstLeast.{before-trans, first-cheapest}
use Rattle.ih_fill.proofs.ListLemmas.{get-front, get-behind}
use Rattle.ih_parfill.specs.declared.scans.Found.{Found}
use Rattle.ih_parfill.specs.declared.scans.ShareScan.{ShareScan}
use Rattle.ih_parfill.specs.Shares.{HaveFound, HasLooked, IsFirstOf, IsLeastOf, IsLower, IsOfShare, IsShare}

module _ (v : Write → ℤ) where
  -- ---- the lower of two

  writes-before : (ws : List Write) (S R : ℕ → Type 0) (a b : Found) → IsFirstOf v ws S a → IsFirstOf v ws R b → IsBefore a.candidate.value a.place b.candidate.value b.place
      → IsBefore (v a.candidate.write) a.place (v b.candidate.write) b.place
  writes-before ws S R a b first second h =
      subst (λ x. IsBefore x a.place (v b.candidate.write) b.place) (ap (λ (c : Candidate). c.value) first.value)
      (subst (λ y. IsBefore a.candidate.value a.place y b.place) (ap (λ (c : Candidate). c.value) second.value) h)

  -- the same candidates at places that are named otherwise
  pub same-places : (ws : List Write) (S R : ℕ → Type 0) (o : Option Found) → ((k : ℕ) → R k → k < length ws → S k) → ((k : ℕ) → S k → k < length ws → R k)
      → IsLeastOf v ws S o → IsLeastOf v ws R o
  same-places ws S R None from to none = λ k x t there. none k x (from k t (slice_get_within ws k x there)) there
  same-places ws S R (Some f) from to first = record {
    value = first.value;
    first = record {
      there = first.first.there;
      among = to f.place first.first.among (slice_get_within ws f.place f.candidate.write first.first.there);
      first = λ k x t there. first.first.first k x (from k t (slice_get_within ws k x there)) there;
    };
  }

  -- the first least of some places that comes before each write at others is the first least of all of them
  with-others : (ws : List Write) (S R : ℕ → Type 0) (a : Found) → IsFirstOf v ws S a
      → ((k : ℕ) (x : Write) → R k → slice_get ws k ≡ Some x → IsBefore (v a.candidate.write) a.place (v x) k)
      → IsFirstOf v ws (λ k. S k ⊎ R k) a
  with-others ws S R a first ahead = record {
    value = first.value;
    first = record {
      there = first.first.there;
      among = inl first.first.among;
      first = λ k x h there. elim h [
        | inl s ↦ first.first.first k x s there
        | inr t ↦ ahead k x t there
      ];
    };
  }

  -- in whichever order the places are named
  turned : (ws : List Write) (S R : ℕ → Type 0) (o : Option Found) → IsLeastOf v ws (λ k. R k ⊎ S k) o
      → IsLeastOf v ws (λ k. S k ⊎ R k) o
  turned ws S R o =
      same-places ws (λ k. R k ⊎ S k) (λ k. S k ⊎ R k) o
      (λ k h within. elim h [
        | inl s ↦ inr s
        | inr t ↦ inl t
      ])
      (λ k h within. elim h [
        | inl t ↦ inr t
        | inr s ↦ inl s
      ])

  -- the lower of the first least of some places and of others is the first least of all of them
  pub lower-joins : (ws : List Write) (S R : ℕ → Type 0) (a b r : Option Found) → IsLower a b r → IsLeastOf v ws S a → IsLeastOf v ws R b
      → IsLeastOf v ws (λ k. S k ⊎ R k) r
  lower-joins ws S R None None r e none nothing = rw e (λ k x h there. elim h [
    | inl s ↦ none k x s there
    | inr t ↦ nothing k x t there
  ])
  lower-joins ws S R None (Some b) r e none first =
      rw e (turned ws S R (Some b) (with-others ws R S b first (λ k x s there. absurd (none k x s there))))
  lower-joins ws S R (Some a) None r e first none =
      rw e (with-others ws S R a first (λ k x t there. absurd (none k x t there)))
  lower-joins ws S R (Some a) (Some b) r (inl left) first second =
      let ahead = writes-before ws S R a b first second left.1 in
      rw left.0 (with-others ws S R a first
      (λ k x t there. before-trans (v a.candidate.write) (v b.candidate.write) (v x) a.place b.place k ahead (second.first.first k x t there)))
  lower-joins ws S R (Some a) (Some b) r (inr right) first second =
      let ahead = writes-before ws R S b a second first right.1 in
      rw right.0 (turned ws S R (Some b) (with-others ws R S b second
      (λ k x s there. before-trans (v b.candidate.write) (v a.candidate.write) (v x) b.place a.place k ahead (first.first.first k x s there))))

  -- ---- one candidate more

  least-longer : (ws : List Write) (x : Write) (S : ℕ → Type 0) (o : Option Found) → (S (length ws) → ⊥) → IsLeastOf v ws S o → IsLeastOf v (ws ++ x ∷ []) S o
  least-longer ws x S None other none = λ k y s there. elim (get-behind ws x y k there) [
    | inl before ↦ none k y s before
    | inr end ↦ other (subst S end.0 s)
  ]
  least-longer ws x S (Some f) other first = record {
    value = first.value;
    first = record {
      there = get-front ws x f.candidate.write f.place first.first.there;
      among = first.first.among;
      first = λ k y s there. elim (get-behind ws x y k there) [
        | inl before ↦ first.first.first k y s before
        | inr end ↦ absurd (other (subst S end.0 s))
      ];
    };
  }

  least-alone : (ws : List Write) (x : Write) (f : Found) → f.place ≡ length ws → f.candidate ≡ valued v x → IsLeastOf v (ws ++ x ∷ []) (λ k. k ≡ length ws) (Some f)
  least-alone ws x f end is =
      let own : f.candidate.write ≡ x = ap (λ (c : Candidate). c.write) is in
      record {
        value = is ∙ ap (valued v) (sym own);
        first = record {
          there = ap (slice_get (ws ++ x ∷ [])) end ∙ (get-last ws x ∙ ap Some (sym own));
          among = end;
          first = λ k y at there.
              let last : slice_get (ws ++ x ∷ []) (length ws) ≡ Some y = subst (λ j. slice_get (ws ++ x ∷ []) j ≡ Some y) at there in
              let same : x ≡ y = (let e : Some x ≡ Some y = sym (get-last ws x) ∙ last in cc) in
              inr (ap v (own ∙ same), (omega (arith, end, at)));
        };
      }

  pub scan_passes : (I : Draft) (ws : List Write) (x : Write) (s t : ShareScan) → t ≡ record s { passed = s.passed + 1 } → (s.passed % s.workers ≡ s.worker → ⊥) → HasLooked I v ws s
      → HasLooked I v (ws ++ x ∷ []) t
  scan_passes I ws x s t e other looked =
      let passed = looked.passed in
      let len : length (ws ++ x ∷ []) ≡ length ws + 1 = length-append ws (x ∷ []) in
      rw e (record {
        passed = omega (arith, passed, len);
        least = least-longer ws x (IsShare s.workers s.worker) s.best (λ own. other (ap (λ k. k % s.workers) passed ∙ own)) looked.least;
        fits = looked.fits;
      })

  lower-either : (Q : Found → Type 0) (a b r : Option Found) → IsLower a b r → IfSome a Q → IfSome b Q → IfSome r Q
  lower-either Q None b r e p q = rw e q
  lower-either Q (Some a) None r e p q = rw e p
  lower-either Q (Some a) (Some b) r (inl h) p q = rw h.0 p
  lower-either Q (Some a) (Some b) r (inr h) p q = rw h.0 q

  pub scan-looks : (I : Draft) (ws : List Write) (x : Write) (s t : ShareScan) (f : Found) → IsShare s.workers s.worker s.passed → f.place ≡ s.passed → f.candidate ≡ valued v x → IsWriteOf I x
      → IsLower s.best (Some f) t.best → t.passed ≡ s.passed + 1 → t.workers ≡ s.workers → t.worker ≡ s.worker → HasLooked I v ws s → HasLooked I v (ws ++ x ∷ []) t
  scan-looks I ws x s t f mine place is fits low more workers worker looked =
      let passed = looked.passed in
      let len : length (ws ++ x ∷ []) ≡ length ws + 1 = length-append ws (x ∷ []) in
      let S : ℕ → Type 0 = λ k. IsShare s.workers s.worker k × (k < length ws) in
      let own : IsLeastOf v (ws ++ x ∷ []) (λ k. S k ⊎ (k ≡ length ws)) t.best =
      lower-joins (ws ++ x ∷ []) S (λ k. k ≡ length ws) s.best (Some f) t.best low
      (least-longer ws x S s.best (λ h. let below = h.1 in omega arith) (same-places ws (IsShare s.workers s.worker) S s.best (λ k h within. h.0) (λ k h within. (h, within)) looked.least))
      (least-alone ws x f (place ∙ passed) is) in
      record {
        passed = omega (arith, more, passed, len);
        least = rw (workers, worker) (same-places (ws ++ x ∷ []) (λ k. S k ⊎ (k ≡ length ws)) (IsShare s.workers s.worker) t.best
            (λ k h within. elim (cases_lt k (length ws)) [
              | inl below ↦ inl (h, below)
              | inr above ↦ inr (omega (arith, len, within, above))
            ])
            (λ k h within. elim h [
              | inl share ↦ share.0
              | inr end ↦ ap (λ j. j % s.workers) (end ∙ sym passed) ∙ mine
            ]) own);
        fits = lower-either (λ (g : Found). IsWriteOf I g.candidate.write) s.best (Some f) t.best low looked.fits
            (subst (IsWriteOf I) (sym (ap (λ (c : Candidate). c.write) is)) fits);
      }

  pub looked-none : (I : Draft) (s : ShareScan) → s.passed ≡ 0 → s.best ≡ None → HasLooked I v [] s
  looked-none I s none nothing = record {
    passed = none;
    least = rw nothing (λ k x own there. let no : None ≡ Some x = there in cc);
    fits = rw nothing tt;
  }

  -- all candidates lie behind the worker
  pub of-share : (I : Draft) (ws xs : List Write) (s : ShareScan) (n w : ℕ) → HasLooked I v ws s → ws ≡ xs → s.workers ≡ n → s.worker ≡ w → IsOfShare I v xs (IsShare n w) s.best
  of-share I ws xs s n w looked all workers worker =
      rw (sym workers, sym worker) (subst (λ ys. IsOfShare I v ys (IsShare s.workers s.worker) s.best) all (record { least = looked.least; fits = looked.fits }))

  -- ---- all shares

  -- the places of the workers below m
  abbrev pub IsOfFirst : ℕ → ℕ → ℕ → Type 0
  IsOfFirst n m k = k % n < m

  pub all-none : (I : Draft) (ws : List Write) (n : ℕ) → IsOfShare I v ws (IsOfFirst n 0) None
  all-none I ws n = record { least = λ k x below there. omega arith; fits = tt }

  pub all-more : (I : Draft) (ws : List Write) (n m : ℕ) (best own next : Option Found) → IsLower best own next → IsOfShare I v ws (IsOfFirst n m) best
      → IsOfShare I v ws (IsShare n m) own → IsOfShare I v ws (IsOfFirst n (m + 1)) next
  all-more I ws n m best own next low first mine = record {
    least = same-places ws (λ k. IsOfFirst n m k ⊎ IsShare n m k) (IsOfFirst n (m + 1)) next
        (λ k below within. elim (cases_lt (k % n) m) [
          | inl less ↦ inl less
          | inr more ↦ inr (omega arith)
        ])
        (λ k below within. elim below [
          | inl less ↦ omega arith
          | inr same ↦ omega arith
        ])
        (lower-joins ws (IsOfFirst n m) (IsShare n m) best own next low first.least mine.least);
    fits = lower-either (λ (g : Found). IsWriteOf I g.candidate.write) best own next low first.fits mine.fits;
  }

  pub all-of : (I : Draft) (ws : List Write) (n m : ℕ) (best : Option Found) → 0 < n → n ≤ m → IsOfShare I v ws (IsOfFirst n m) best → IsOfShare I v ws AnyPlace best
  all-of I ws n m best some most found = record {
    least = same-places ws (IsOfFirst n m) AnyPlace best (λ k t within. let small = mod-lt k some in omega (arith, small, most)) (λ k below within. tt) found.least;
    fits = found.fits;
  }

  -- there are as many workers as have found something or nothing
  pub as-many : (I : Draft) (ws : List Write) (n : ℕ) (found : List (Option Found)) → HaveFound I v ws n found → HaveFound I v ws (length found) found
  as-many I ws n found all = subst (λ m. HaveFound I v ws m found) (sym all.len) all

  -- ---- the first least of all is the cheapest

  none-there : (ws : List Write) → IsLeastOf v ws AnyPlace None → ws ≡ []
  none-there [] h = refl
  none-there (x ∷ xs) h = absurd (h 0 x tt refl)

  pub least-none : (ws : List Write) → IsLeastOf v ws AnyPlace None → None ≡ least_of v ws
  least-none ws none = ap (least_of v) (sym (none-there ws none))

  pub least-found : (ws : List Write) (f : Found) → IsLeastOf v ws AnyPlace (Some f) → Some f.candidate ≡ least_of v ws
  least-found [] f least = absurd (let there : None ≡ Some f.candidate.write = least.first.there in cc)
  least-found (x ∷ xs) f least =
      ap Some (least.value ∙ ap (valued v) (sym (first-cheapest v x xs f.place f.candidate.write least.first)))
