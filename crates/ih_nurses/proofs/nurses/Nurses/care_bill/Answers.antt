use Rattle.std.proofs.Common.{◌∙◌, refl}
use Rattle.ih_nurses.proofs.ShiftSpanLemmas.{shift_span-part}
use Rattle.ih_nurses.proofs.nurses.Nurses.care_bill.Goals as goal

pub returns : goal.returns
returns c = record {
  part = λ P known.
      c.bill_of.ensures.value
      ∙ shift_span-part c.args.inst.now.draft P c.args.person c.distinct_nurses_over.result (c.distinct_nurses_over.ensures ∙ rw (c.shift_span_of.ensures.shift_span, known.plan_is) refl);
  within = c.bill_of.ensures.within;
}
