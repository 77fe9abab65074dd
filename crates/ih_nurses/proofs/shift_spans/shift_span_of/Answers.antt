use Rattle.std.proofs.Common.{◌∙◌, refl, arith}
use Rattle.ih_plan.proofs.Entries.{admission-patient}
use Rattle.ih_nurses.proofs.shift_spans.shift_span_of.Goals as goal

pub returns-then-person-patients-clause-shift_span : goal.returns-then-person-patients-clause-shift_span
returns-then-person-patients-clause-shift_span c =
    c.stay_shift_span.ensures.shift_span ∙ rw (c.stay.ensures, admission-patient c.args.inst.now.draft c.args.plan.now c.args.person (omega arith)) refl
