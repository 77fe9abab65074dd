-- The cheapest admission is the first least of the stays.
use Rattle.std.proofs.Common.{◌≡◌, ℕ, refl, sym, ◌∙◌, ap, Bool, true, false, List, [], ◌∷◌}
use Rattle.std.specs.Prelude.{ℤ, int_lt, if◌then◌else◌, IfSome, Option, Some, None, option_and_then, slice_get}
use Rattle.ih_tables.specs.declared.drafts.Draft.{Draft}
use Rattle.ih_plan.specs.declared.limits.TheConstants.{MAX_HARD}
use Rattle.ih_plan.specs.declared.moves.Write.{Write}
use Rattle.ih_plan.specs.declared.moves.Write.TheVariants.{SetStay, SetCare}
use Rattle.ih_plan.specs.Timetable.{Timetable, IsPlacement}
use Rattle.ih_plan.specs.Writes.{IsWriteOf}
use Rattle.ih_fill.specs.declared.candidates.Candidate.{Candidate}
use Rattle.ih_fill.specs.Candidates.{cheapest, least_of, stay_writes, valued}
use Rattle.ih_fill.specs.Fill.{write_score}
use Rattle.ih_fill.specs.ScorerState.{ScorerState, stay_value, view_of}
use Rattle.ih_waiting.specs.Admissions.{admission_score, cheapest_admission, place_in}
use Rattle.ih_waiting.specs.ScorerUse.{IsForAdmissions}

-- ---- as a scorer finds it

score-at : (I J : Draft) (hard : ℕ) (counts : Bool) (P : Timetable) → J ≡ I → hard ≡ MAX_HARD → counts ≡ true
    → write_score J hard (view_of counts) P ≡ admission_score I P
score-at I J hard counts P e f g = rw (e, f, g) refl

pub same-score : (I : Draft) (F : ScorerState) → IsForAdmissions I F → stay_value F ≡ admission_score I F.plan
unfolding stay_value
same-score I F h = score-at I F.instance F.hard F.counts_uncovered F.plan h.instance h.hard h.counts

alike : (b : Bool) (w : Write) → (if b then w else w) ≡ w
alike true w = refl
alike false w = refl

-- the cheapest of a list's first and the list is that of the list
least-from : (v : Write → ℤ) (ws : List Write) (w : Write) → slice_get ws 0 ≡ Some w → least_of v ws ≡ Some (valued v (cheapest v w ws))
least-from v [] w e = absurd (let no : None ≡ Some w = e in cc)
least-from v (x ∷ xs) w e =
    let same : w ≡ x = (let h : Some x ≡ Some w = e in cc) in
    rw (same, alike (int_lt (v x) (v x)) (cheapest v x xs)) refl

pub some-cheapest : (I : Draft) (F : ScorerState) (p : ℕ) (w : Write) (best : Candidate) → IsForAdmissions I F → slice_get (stay_writes I p) 0 ≡ Some w
    → best ≡ valued (stay_value F) (cheapest (stay_value F) w (stay_writes I p)) → place_in best.write ≡ cheapest_admission I F.plan p
unfolding cheapest_admission
some-cheapest I F p w best apt first e =
    let of_scorer : best ≡ valued (admission_score I F.plan) (cheapest (admission_score I F.plan) w (stay_writes I p)) =
    e ∙ ap (λ (v : Write → ℤ). valued v (cheapest v w (stay_writes I p))) (same-score I F apt) in
    ap (λ (c : Candidate). place_in c.write) of_scorer
    ∙ ap (λ (o : Option Candidate). option_and_then (λ (c : Candidate). place_in c.write) o) (sym (least-from (admission_score I F.plan) (stay_writes I p) w first))

none-least : (v : Write → ℤ) (ws : List Write) → slice_get ws 0 ≡ None → least_of v ws ≡ None
none-least v [] e = refl
none-least v (x ∷ xs) e = absurd (let no : Some x ≡ None = e in cc)

pub none-cheapest : (I : Draft) (P : Timetable) (p : ℕ) → slice_get (stay_writes I p) 0 ≡ None → None ≡ cheapest_admission I P p
unfolding cheapest_admission
none-cheapest I P p none =
    ap (λ (o : Option Candidate). option_and_then (λ (c : Candidate). place_in c.write) o) (sym (none-least (admission_score I P) (stay_writes I p) none))

pub place-fits : (I : Draft) (w : Write) → IsWriteOf I w → IfSome (place_in w) (λ place. IsPlacement I place)
place-fits I (SetStay p (Some place)) fits = fits.1 place refl
place-fits I (SetStay p None) fits = tt
place-fits I (SetCare r k care) fits = tt
