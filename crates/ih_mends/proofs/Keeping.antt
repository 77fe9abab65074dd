-- The first least of those writes that lower a number, with one candidate more.
use Rattle.std.proofs.Common.{◌≡◌, ℕ, zero, suc, ◌+◌, ◌≤◌, refl, sym, ◌∙◌, ap, subst, Bool, true, false, List, [], ◌∷◌, ◌++◌, length, map, take}
use Rattle.std.specs.Prelude.{ℤ, cond, filter, IfSome, Option, Some, None, slice_get}
use Rattle.std.proofs.lemmas.List.{append-nil, map-append, take_all, take_more}
use Rattle.std.proofs.lemmas.List.Elements.{filter-append}
use Rattle.std.proofs.lemmas.Option.{get_or_from_slice_get, slice_get_within}
use Rattle.ih_tables.specs.declared.drafts.Draft.{Draft}
use Rattle.ih_plan.specs.declared.limits.TheConstants.{MAX_HARD}
use Rattle.ih_plan.specs.declared.moves.Write.{Write}
use Rattle.ih_plan.specs.Timetable.{Timetable}
use Rattle.ih_fill.specs.declared.candidates.Candidate.{Candidate}
use Rattle.ih_fill.specs.declared.choices.Choice.{Choice}
use Rattle.ih_fill.specs.Candidates.{least_of, valued}
use Rattle.ih_fill.specs.Choices.{all_choices}
use Rattle.ih_fill.proofs.CandidateLemmas.{cheaper, cheaper-either, least_with, next-of}
use Rattle.ih_replacements.specs.Replacements.{best_of, best_write, value_of}
use Rattle.ih_mends.specs.Mends.{lowers, mend}

-- the elements up to the one at place k
pub take-next : {A : Type 0} (xs : List A) (k : ℕ) (x : A) → slice_get xs k ≡ Some x → take (k + 1) xs ≡ take k xs ++ x ∷ []
take-next xs k x h = take_more xs k x (slice_get_within xs k x h) ∙ ap (λ y. take k xs ++ y ∷ []) (get_or_from_slice_get xs k x x h)

abbrev pub writes_of : List Candidate → List Write
writes_of cs = map (λ (c : Candidate). c.write) cs

module _ (v : Write → ℤ) (q : Write → Bool) where
  -- of the candidates' writes that pass the first least
  abbrev pub kept : List Candidate → Option Candidate
  kept cs = least_of v (filter q (writes_of cs))

  one-filtered : (w : Write) (b : Bool) → q w ≡ b → filter q (w ∷ []) ≡ cond b (w ∷ []) []
  one-filtered w b e = rw e refl

  writes-next : (cs : List Candidate) (k : ℕ) (c : Candidate) (b : Bool) → slice_get cs k ≡ Some c → q c.write ≡ b
      → filter q (writes_of (take (k + 1) cs)) ≡ filter q (writes_of (take k cs)) ++ cond b (c.write ∷ []) []
  writes-next cs k c b there e =
      ap (λ xs. filter q (writes_of xs)) (take-next cs k c there)
      ∙ (ap (filter q) (map-append (λ (x : Candidate). x.write) (take k cs) (c ∷ []))
      ∙ (filter-append q (writes_of (take k cs)) (c.write ∷ [])
      ∙ ap (λ ws. filter q (writes_of (take k cs)) ++ ws) (one-filtered c.write b e)))

  kept-next : (cs : List Candidate) (k : ℕ) (c : Candidate) (best : Option Candidate) → slice_get cs k ≡ Some c → c ≡ valued v c.write
      → best ≡ kept (take k cs) → q c.write ≡ true → Some (least_with best c) ≡ kept (take (k + 1) cs)
  kept-next cs k c best there worth so_far passes =
      next-of v (filter q (writes_of (take k cs))) c.write best c so_far worth ∙ ap (least_of v) (sym (writes-next cs k c true there passes))

  -- it is kept where nothing was, or it is cheaper
  pub kept-first : (cs : List Candidate) (k : ℕ) (c : Candidate) (best new : Option Candidate) → slice_get cs k ≡ Some c → c ≡ valued v c.write
      → best ≡ kept (take k cs) → q c.write ≡ true → None ≡ best → new ≡ Some c → new ≡ kept (take (k + 1) cs)
  kept-first cs k c best new there worth so_far passes is e =
      e ∙ (ap (λ o. Some (least_with o c)) is ∙ kept-next cs k c best there worth so_far passes)

  pub kept-cheaper : (cs : List Candidate) (k : ℕ) (c first less : Candidate) (best new : Option Candidate) → slice_get cs k ≡ Some c → c ≡ valued v c.write
      → best ≡ kept (take k cs) → q c.write ≡ true → Some first ≡ best → less ≡ cheaper first c → new ≡ Some less → new ≡ kept (take (k + 1) cs)
  kept-cheaper cs k c first less best new there worth so_far passes is one e =
      e ∙ (ap Some one ∙ (ap (λ o. Some (least_with o c)) is ∙ kept-next cs k c best there worth so_far passes))

  pub kept-same : (cs : List Candidate) (k : ℕ) (c : Candidate) (best : Option Candidate) → slice_get cs k ≡ Some c
      → best ≡ kept (take k cs) → q c.write ≡ false → best ≡ kept (take (k + 1) cs)
  kept-same cs k c best there so_far fails =
      so_far ∙ ap (least_of v) (sym (writes-next cs k c false there fails ∙ append-nil (filter q (writes_of (take k cs)))))

-- what holds of both holds of the cheaper
pub either-fits : (Q : Write → Type 0) (first c less : Candidate) (new : Option Candidate) → less ≡ cheaper first c → new ≡ Some less → Q first.write → Q c.write
    → IfSome new (λ (b : Candidate). Q b.write)
either-fits Q first c less new one e p r = rw e (subst (λ (b : Candidate). Q b.write) (sym one) (cheaper-either Q first c p r))

-- ---- the best replacements of choices

module _ (I : Draft) (hard : ℕ) (P : Timetable) where
  best-valued : (cs : List Choice) (k : ℕ) (c : Candidate) → slice_get (map (best_of I hard P) cs) k ≡ Some c → c ≡ valued (value_of I hard P) c.write
  best-valued [] k c e = absurd (let no : None ≡ Some c = e in cc)
  best-valued (x ∷ xs) zero c e =
      let same : best_of I hard P x ≡ c = (let h : Some (best_of I hard P x) ≡ Some c = e in cc) in
      subst (λ (d : Candidate). d ≡ valued (value_of I hard P) d.write) same refl
  best-valued (x ∷ xs) (suc k) c e = best-valued xs k c e

  best-writes : (cs : List Choice) → writes_of (map (best_of I hard P) cs) ≡ map (best_write I hard P) cs
  best-writes [] = refl
  best-writes (x ∷ xs) = ap (λ ws. best_write I hard P x ∷ ws) (best-writes xs)

-- a candidate has its value
pub is-valued : (I : Draft) (P : Timetable) (cs : List Choice) (changes : List Candidate) (k : ℕ) (c : Candidate) → changes ≡ map (best_of I MAX_HARD P) cs
    → slice_get changes k ≡ Some c → c ≡ valued (value_of I MAX_HARD P) c.write
is-valued I P cs changes k c e there = best-valued I MAX_HARD P cs k c (ap (λ xs. slice_get xs k) (sym e) ∙ there)

-- what is kept of all is the mend
pub kept-all : (I : Draft) (P : Timetable) (rule k : ℕ) (changes : List Candidate) (best : Option Candidate) → changes ≡ map (best_of I MAX_HARD P) (all_choices I)
    → length changes ≤ k → best ≡ kept (value_of I MAX_HARD P) (lowers I P rule) (take k changes) → best ≡ mend I P rule
unfolding mend
kept-all I P rule k changes best e ended so_far =
    so_far
    ∙ (ap (kept (value_of I MAX_HARD P) (lowers I P rule)) (take_all k changes ended ∙ e)
    ∙ ap (λ ws. least_of (value_of I MAX_HARD P) (filter (lowers I P rule) ws)) (best-writes I MAX_HARD P (all_choices I)))
