use Rattle.std.proofs.Common.{◌≡◌, ◌∙◌, ℕ, ap, refl, rules}
use Rattle.ih_tables.specs.declared.drafts.Draft.{Draft}
use Rattle.ih_plan.specs.Timetable.{Timetable}
use Rattle.ih_plan.specs.BillOf.{theatre_overtime, surgeon_overtime}
use Rattle.ih_plan.specs.Sums.{sum_below}
use Rattle.ih_validate.specs.Surgery.{count_of, one_of, overtime, overtime_of}
use Rattle.ih_validate.specs.declared.surgery.ResourceKind.{ResourceKind}
use Rattle.ih_validate.specs.declared.surgery.ResourceKind.TheVariants.{Theatres, Surgeons}
use Rattle.ih_validate.proofs.overtime.overtime.Goals as goal

over-all : (I : Draft) (P : Timetable) (kind : ResourceKind) → sum_below (count_of I kind) (λ i. overtime_of I P (one_of kind i)) ≡ overtime I P kind
unfolding theatre_overtime surgeon_overtime overtime_of
over-all I P Theatres = refl
over-all I P Surgeons = refl

pub returns-clause-value : goal.returns-clause-value
returns-clause-value c =
    let I = c.args.inst.now.draft in
    let each = λ (i : ℕ). overtime_of I c.args.plan.now (one_of c.args.kind i) in
    c.sum_below.ensures.sum each (search rules)
    ∙ (ap (λ n. sum_below n each) c.count_of.ensures ∙ over-all I c.args.plan.now c.args.kind)
