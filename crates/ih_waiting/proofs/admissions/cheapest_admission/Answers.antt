use Rattle.std.proofs.Common.{◌≡◌, ◌∙◌, ap, Some}
use Rattle.ih_plan.specs.declared.moves.Write.TheVariants.{SetStay}
use Rattle.ih_fill.specs.declared.candidates.Candidate.{Candidate}
use Rattle.ih_fill.specs.Candidates.{cheapest, stay_writes, valued}
use Rattle.ih_fill.specs.ScorerState.{stay_value}
use Rattle.ih_waiting.proofs.Cheapest.{none-cheapest, some-cheapest}
use Rattle.ih_waiting.proofs.admissions.cheapest_admission.Goals as goal

pub returns-in-None-clause-cheapest : goal.returns-in-None-clause-cheapest
returns-in-None-clause-cheapest c = none-cheapest c.args.inst.now.draft c.args.scorer.now.plan c.args.patient.0 c.in-None.ensures.first

pub returns-in-Some-clause-cheapest : goal.returns-in-Some-clause-cheapest
returns-in-Some-clause-cheapest c =
    let I = c.args.inst.now.draft in
    let F = c.args.scorer.now in
    let best = c.cheapest_stay-best.result in
    let first = SetStay c.args.patient (Some c.in-Some.place) in
    let least : best ≡ valued (stay_value F) (cheapest (stay_value F) first (stay_writes I c.args.patient.0)) =
    c.cheapest_stay-best.ensures.least
    ∙ ap (λ (d : Candidate). valued (stay_value F) (cheapest (stay_value F) d.write (stay_writes I c.args.patient.0))) c.stay-first.ensures in
    c.place_in.ensures ∙ some-cheapest I F c.args.patient.0 first best c.requires.scorer c.in-Some.ensures.first least
