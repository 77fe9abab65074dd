-- The best of a choice's candidates, from the least of the nurses and from the least of the stays.
use Rattle.std.proofs.Common.{◌≡◌, refl, sym, ap, ◌∙◌, subst, true, List, [], ◌∷◌, Option, Some, None}
use Rattle.std.specs.Prelude.{ℕ, ℤ}
use Rattle.ih_tables.specs.declared.drafts.Draft.{Draft}
use Rattle.ih_plan.specs.declared.moves.Write.{Write}
use Rattle.ih_plan.specs.Timetable.{Timetable}
use Rattle.ih_fill.specs.Fill.{write_score}
use Rattle.ih_fill.specs.declared.candidates.Candidate.{Candidate}
use Rattle.ih_fill.specs.Candidates.{cheapest, valued, least_of}
use Rattle.ih_fill.specs.ScorerState.{ScorerState, care_value, stay_value, view_of}
use Rattle.ih_fill.proofs.CandidateLemmas.{cheaper, cheaper-more}
use Rattle.ih_fill.specs.FirstLeast.{IsFirstLeastOf}
use Rattle.ih_fill.proofs.FirstLeast.{cheapest-first, cheapest-joined}
use Rattle.ih_fill.specs.declared.choices.Choice.{Choice}
use Rattle.ih_replacements.specs.Replacements.{best_write, clearing, replacements, setting_writes, value_of}

module _ (v : Write → ℤ) where
  none-best : (w : Write) (ws : List Write) → None ≡ least_of v ws → valued v w ≡ valued v (cheapest v w ws)
  none-best w [] e = refl
  none-best w (x ∷ xs) e = absurd (let no : None ≡ Some (valued v (cheapest v x xs)) = e in cc)

  some-best : (w : Write) (ws : List Write) (least : Candidate) → Some least ≡ least_of v ws → cheaper (valued v w) least ≡ valued v (cheapest v w ws)
  some-best w [] least e = absurd (let no : Some least ≡ None = e in cc)
  some-best w (x ∷ xs) least e =
      let same : least ≡ valued v (cheapest v x xs) = (let e : Some least ≡ Some (valued v (cheapest v x xs)) = e in cc) in
      ap (cheaper (valued v w)) same ∙ (cheaper-more v w (cheapest v x xs) [] ∙ ap (valued v) (sym (cheapest-joined v w x xs)))

-- what is scored is the change of the whole bill
care-whole : (F : ScorerState) → care_value F ≡ value_of F.instance F.hard F.plan
unfolding care_value
care-whole F = refl

-- no nurse, or the cheapest one where that is less
abbrev pub with_nurse : Candidate → Option Candidate → Candidate
with_nurse none None = none
with_nurse none (Some nurse) = cheaper none nurse

pub nurse-best : (I : Draft) (F : ScorerState) (w : Write) (ws : List Write) (none : Candidate) (nurse : Option Candidate) → F.instance ≡ I → none ≡ valued (care_value F) w
    → nurse ≡ least_of (care_value F) ws → with_nurse none nurse ≡ valued (value_of I F.hard F.plan) (cheapest (value_of I F.hard F.plan) w ws)
nurse-best I F w ws none nurse same is least =
    subst (λ (f : Write → ℤ). with_nurse none nurse ≡ valued f (cheapest f w ws)) (care-whole F ∙ ap (λ (J : Draft). value_of J F.hard F.plan) same) (either nurse least)
  where
    either : (o : Option Candidate) → o ≡ least_of (care_value F) ws → with_nurse none o ≡ valued (care_value F) (cheapest (care_value F) w ws)
    either None e = is ∙ none-best (care_value F) w ws e
    either (Some x) e = ap (λ (y : Candidate). cheaper y x) is ∙ some-best (care_value F) w ws x e

pub stay-whole : (F : ScorerState) → F.counts_uncovered ≡ true → stay_value F ≡ value_of F.instance F.hard F.plan
unfolding stay_value
stay-whole F counts = ap (λ b. write_score F.instance F.hard (view_of b) F.plan) counts

-- the best is the first least of all that may replace the choice
pub best-first : (I : Draft) (hard : ℕ) (P : Timetable) (s : Choice) → IsFirstLeastOf (value_of I hard P) (replacements I s) (best_write I hard P s)
unfolding best_write
best-first I hard P s = cheapest-first (value_of I hard P) (clearing s) (setting_writes I s)
