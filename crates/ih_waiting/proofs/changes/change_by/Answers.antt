use Rattle.std.proofs.Common.{◌∙◌, ◌^◌, ap, subst, sym, Some}
use Rattle.ih_tables.specs.declared.drafts.Draft.{Draft}
use Rattle.ih_tables.specs.Bills.{IsWithin}
use Rattle.ih_plan.specs.declared.moves.Write.TheVariants.{SetStay}
use Rattle.ih_plan.specs.BillOf.{change_of_bill}
use Rattle.ih_plan.specs.Timetable.{IsPlanOf}
use Rattle.ih_plan.specs.Writes.{put}
use Rattle.ih_plan.proofs.BillBounds.{change-within}
use Rattle.ih_plan.proofs.PlanRanges.{put-plan}
use Rattle.ih_fill.proofs.CandidateLemmas.{stay-fits}
use Rattle.ih_waiting.specs.Admissions.{change_by}
use Rattle.ih_waiting.proofs.changes.change_by.Goals as goal

pub returns-clause-value : goal.returns-clause-value
unfolding change_by
returns-clause-value c =
    let P = c.args.scorer.now.plan in
    let w = SetStay c.args.patient (Some c.args.place) in
    c.price.ensures ∙ ap (λ (J : Draft). change_of_bill J P (put w P)) c.requires.scorer.instance

pub returns-clause-within : goal.returns-clause-within
returns-clause-within c =
    let I = c.args.inst.now.draft in
    let P = c.args.scorer.now.plan in
    let w = SetStay c.args.patient (Some c.args.place) in
    let price = c.price.ensures ∙ ap (λ (J : Draft). change_of_bill J P (put w P)) c.requires.scorer.instance in
    let plan : IsPlanOf I P = subst (λ (J : Draft). IsPlanOf J P) c.requires.scorer.instance c.fits.ensures in
    let fits = stay-fits I c.args.patient c.args.place c.requires.patient c.requires.place in
    subst (IsWithin (10 ^ 11)) (sym price) (change-within I P (put w P) c.args.inst.now.valid plan (put-plan I P w plan fits))
