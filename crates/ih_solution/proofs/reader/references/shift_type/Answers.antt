use Rattle.ih_solution.proofs.References.{few-found}
use Rattle.std.proofs.Common.{arith}
use Rattle.ih_solution.proofs.reader.references.shift_type.Goals as goal

pub returns-clause-inside : goal.returns-clause-inside
returns-clause-inside c =
    let three = c.args.inst.now.valid.types.len.most in
    rw c.known.ensures (few-found _ _ 3 _ _ _ c.find_shift_type.ensures (omega (arith, three)))
