use Rattle.std.proofs.Common.{◌∙◌, ◌^◌, ap, subst, sym}
use Rattle.ih_tables.specs.declared.drafts.Draft.{Draft}
use Rattle.ih_tables.specs.Bills.{IsWithin}
use Rattle.ih_plan.specs.BillOf.{change_of_bill}
use Rattle.ih_plan.specs.Timetable.{IsPlanOf}
use Rattle.ih_plan.specs.Writes.{put}
use Rattle.ih_plan.proofs.BillBounds.{change-within}
use Rattle.ih_plan.proofs.PlanRanges.{put-plan}
use Rattle.ih_mends.proofs.changes.change_by.Goals as goal

pub returns-clause-value : goal.returns-clause-value
returns-clause-value c =
    let P = c.args.scorer.now.plan in
    let w = c.args.write.now in
    c.price.ensures ∙ ap (λ (J : Draft). change_of_bill J P (put w P)) c.requires.scorer.instance

pub returns-clause-within : goal.returns-clause-within
returns-clause-within c =
    let I = c.args.inst.now.draft in
    let P = c.args.scorer.now.plan in
    let w = c.args.write.now in
    let price = c.price.ensures ∙ ap (λ (J : Draft). change_of_bill J P (put w P)) c.requires.scorer.instance in
    let plan : IsPlanOf I P = subst (λ (J : Draft). IsPlanOf J P) c.requires.scorer.instance c.fits.ensures in
    subst (IsWithin (10 ^ 11)) (sym price) (change-within I P (put w P) c.args.inst.now.valid plan (put-plan I P w plan c.requires.write))
