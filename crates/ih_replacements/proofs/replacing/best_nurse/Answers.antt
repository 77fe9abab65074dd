use Rattle.std.proofs.Common.{◌∙◌, sym, subst, None, Some}
use Rattle.ih_plan.specs.declared.moves.Write.TheVariants.{SetCare}
use Rattle.ih_plan.specs.Writes.{IsWriteOf}
use Rattle.ih_fill.specs.declared.candidates.Candidate.{Candidate}
use Rattle.ih_fill.specs.Candidates.{care_writes}
use Rattle.ih_fill.proofs.CandidateLemmas.{cheaper-either, no-nurse-fits}
use Rattle.ih_replacements.specs.Replacements.{best_write}
use Rattle.ih_replacements.proofs.Choices.{nurse-best}
use Rattle.ih_replacements.proofs.replacing.best_nurse.Goals as goal

pub returns-in-None-clause-best : goal.returns-in-None-clause-best
unfolding best_write
returns-in-None-clause-best c =
    nurse-best c.args.inst.now.draft c.args.scorer.now (SetCare c.args.room c.args.shift None) (care_writes c.args.inst.now.draft c.args.room.0 c.args.shift.0)
    c.no_nurse-none.result None c.requires.instance c.no_nurse-none.ensures (sym c.in-None.is ∙ c.cheapest_nurse.ensures.least)

pub returns-in-None-clause-fits : goal.returns-in-None-clause-fits
returns-in-None-clause-fits c =
    let I = c.args.inst.now.draft in
    subst (λ (x : Candidate). IsWriteOf I x.write) (sym c.no_nurse-none.ensures) (no-nurse-fits I c.args.room c.args.shift c.requires.inside.0 c.requires.inside.1)

pub returns-in-Some-clause-best : goal.returns-in-Some-clause-best
unfolding best_write
returns-in-Some-clause-best c =
    c.cheaper.ensures
    ∙ nurse-best c.args.inst.now.draft c.args.scorer.now (SetCare c.args.room c.args.shift None) (care_writes c.args.inst.now.draft c.args.room.0 c.args.shift.0)
    c.no_nurse-none.result (Some c.in-Some.nurse) c.requires.instance c.no_nurse-none.ensures (sym c.in-Some.is ∙ c.cheapest_nurse.ensures.least)

pub returns-in-Some-clause-fits : goal.returns-in-Some-clause-fits
returns-in-Some-clause-fits c =
    let I = c.args.inst.now.draft in
    let none = subst (λ (x : Candidate). IsWriteOf I x.write) (sym c.no_nurse-none.ensures) (no-nurse-fits I c.args.room c.args.shift c.requires.inside.0 c.requires.inside.1) in
    subst (λ (x : Candidate). IsWriteOf I x.write) (sym c.cheaper.ensures) (cheaper-either (IsWriteOf I) c.no_nurse-none.result c.in-Some.nurse none c.in-Some.ensures.fits)
