use Rattle.std.proofs.Common.{◌∙◌, refl}
use Rattle.ih_tables.specs.Works.{max_load}
use Rattle.ih_nurses.proofs.BillLemmas.{nurse-part}
use Rattle.ih_nurses.proofs.nurses.Nurses.nurse_shift_bill.Goals as goal

pub returns : goal.returns
returns c = record {
  part = λ P known.
      c.bill_of.ensures.value ∙ nurse-part c.args.inst.now.draft P c.args.nurse c.args.shift c.overload.result
      (c.overload.ensures (max_load c.args.inst.now.draft c.args.nurse.0 c.args.shift.0) c.load-load.ensures.most
      ∙ rw (c.load-load.ensures.work, c.as_slice.ensures.value, known.loads_are.each c.args.nurse.0 c.args.shift.0 c.requires.nurse c.requires.shift) refl);
  within = c.bill_of.ensures.within;
}
