use Rattle.ih_costs.proofs.DeltaBills.{two-stays}
use Rattle.ih_costs.proofs.laws.stays_have_deltas.Goals as goal

pub returns : goal.returns
returns c P p new plan fits = two-stays c.args._inst.now.draft P p new c.args._inst.now.valid plan fits
