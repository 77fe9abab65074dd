use Rattle.std.proofs.Common.{arith}
use Rattle.ih_tables.proofs.IndexLemmas.{index_below}
use Rattle.ih_instance.proofs.people.People.nurses.Goals as goal

pub invariant_of-reader : goal.invariant_of-reader
invariant_of-reader c = record {
  least = c.args.self.now.least;
  most = c.args.self.now.most;
  three = λ s k h. let below = index_below c.args.self.now.types.now.1 c.args.self.now.types.now.0 s k c.args.self.now.types_by_name h in let few = c.args.self.now.few in omega (arith, below, few);
}

pub returns : goal.returns
returns c = rw (← c.args.self.now.types_by_name.same) c.listed.ensures
