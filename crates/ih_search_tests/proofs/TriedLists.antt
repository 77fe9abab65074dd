-- What entries stand for, met one by one.
use Rattle.std.proofs.Common.{◌≡◌, ℕ, ◌+◌, ◌<◌, ◌≤◌, ◌∙◌, arith, sym, ap, subst, List, length, take, Option, Some, None}
use Rattle.std.specs.Prelude.{slice_index_or}
use Rattle.std.proofs.Math.ListN.{get_or-map}
use Rattle.std.proofs.lemmas.List.{length-map, take_all}
use Rattle.ih_journal.specs.declared.entries.Entry.{Entry}
use Rattle.ih_journal.specs.Attempts.{last_by}
use Rattle.ih_journal.specs.Tried.{Tried, tried, tries}
use Rattle.ih_cellbook.specs.Laws.{HasNoneBy}
use Rattle.ih_cellbook.proofs.LastEntries.{last-other, last-own, none-last, none_by-next}

module _ (w : ℕ) (es : List Entry) where
  at : (k : ℕ) (d : Entry) → slice_index_or (tries es) k (tried d) ≡ tried (slice_index_or es k d)
  at k d = get_or-map tried es k d

  inside : (k : ℕ) → k < length es → k < length (tries es)
  inside k h = let long : length (tries es) ≡ length es = length-map es tried in omega (arith, long, h)

  past : (k : ℕ) → length es ≤ k → length (tries es) ≤ k
  past k h = let long : length (tries es) ≡ length es = length-map es tried in omega (arith, long, h)

  pub last-mapped-none : None ≡ last_by w (take 0 (tries es))
  last-mapped-none = none-last w

  pub last-mapped-own : (k : ℕ) (d : Entry) → k < length es → (slice_index_or es k d).worker ≡ w → Some (tried (slice_index_or es k d)) ≡ last_by w (take (k + 1) (tries es))
  last-mapped-own k d h own = ap (λ e. Some e) (sym (at k d)) ∙ last-own w (tries es) k (tried d) (inside k h) (ap (λ (t : Tried). t.worker) (at k d) ∙ own)

  pub last-mapped-other : (k : ℕ) (d : Entry) → k < length es → ((slice_index_or es k d).worker ≡ w → ⊥) → last_by w (take k (tries es)) ≡ last_by w (take (k + 1) (tries es))
  last-mapped-other k d h other = last-other w (tries es) k (tried d) (inside k h) (λ own. other (ap (λ (t : Tried). t.worker) (sym (at k d)) ∙ own))

  pub all-taken : (k : ℕ) (last : Option Tried) → length es ≤ k → last ≡ last_by w (take k (tries es)) → last ≡ last_by w (tries es)
  all-taken k last h same = same ∙ ap (last_by w) (take_all k (tries es) (past k h))

  pub none-mapped-none : HasNoneBy w (take 0 (tries es))
  none-mapped-none k e there = absurd (let no : None ≡ Some e = there in cc)

  pub none-mapped-next : (k : ℕ) (d : Entry) → k < length es → HasNoneBy w (take k (tries es)) → ((slice_index_or es k d).worker ≡ w → ⊥) → HasNoneBy w (take (k + 1) (tries es))
  none-mapped-next k d h none other = none_by-next w (tries es) k (tried d) (inside k h) none (λ own. other (ap (λ (t : Tried). t.worker) (sym (at k d)) ∙ own))

  pub none-mapped-all : (k : ℕ) → length es ≤ k → HasNoneBy w (take k (tries es)) → HasNoneBy w (tries es)
  none-mapped-all k h none = subst (HasNoneBy w) (take_all k (tries es) (past k h)) none
