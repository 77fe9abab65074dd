-- What is told of a history from a place on.
use Rattle.std.proofs.Common.{◌≡◌, ℕ, ◌+◌, ◌-◌, ◌<◌, ◌≤◌, arith, ap, ◌∙◌, inl, inr, List, [], ◌∷◌, ◌++◌, length, take, drop}
use Rattle.std.specs.Prelude.{slice_index_or}
use Rattle.std.proofs.lemmas.Bool.{cases_lt}
use Rattle.std.proofs.lemmas.List.{get_or-drop, length-drop}
use Rattle.std.proofs.lemmas.List.Elements.{filter_more}
use Rattle.ih_journal.specs.Tried.{Tried}
use Rattle.ih_journal.specs.History.{is_accepted}
use Rattle.ih_cellbook.specs.News.{NewsState, TellsOf, accepted_between, accepted_of}

-- what is told up to a place, and the entry there
pub told-more : (H : List Tried) (from until : ℕ) (d : Tried) → from ≤ until → until < length H
    → accepted_between H from (until + 1) ≡ accepted_between H from until ++ accepted_of (slice_index_or H until d ∷ [])
told-more H from until d since inside =
    let len = length-drop from H in
    let step : until + 1 - from ≡ until - from + 1 = omega arith in
    let place : from + (until - from) ≡ until = omega arith in
    ap (λ n. accepted_of (take n (drop from H))) step
    ∙ filter_more (λ (e : Tried). is_accepted e.verdict) (drop from H) (until - from) d (omega (arith, len))
    ∙ ap (λ (e : Tried). accepted_between H from until ++ accepted_of (e ∷ []))
    (get_or-drop from H (until - from) d ∙ ap (λ n. slice_index_or H n d) place)

-- it tells of an entry at least, where there is one
pub tells-further : (H : List Tried) (from : ℕ) (n : NewsState) → TellsOf H from n → from < length H → from < n.until
tells-further H from n told more = elim (cases_lt from n.until) [
  | inl below ↦ below
  | inr past ↦
      let none : n.until - from ≡ 0 = omega arith in
      let nothing : length n.accepted ≡ 0 = ap length (told.accepted ∙ ap (λ k. accepted_of (take k (drop from H))) none) in
      let all = told.front in
      let full = told.full (omega (arith, past, all, more)) in
      absurd (omega (arith, nothing, full))
]
