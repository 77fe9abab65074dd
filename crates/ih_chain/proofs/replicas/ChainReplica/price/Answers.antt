use Rattle.std.proofs.Common.{refl}
use Rattle.ih_snapshot.proofs.Pricing.{price-told}
use Rattle.ih_chain.proofs.replicas.ChainReplica.price.Goals as goal

pub returns : goal.returns
returns c =
    let told = price-told c.args.self.now c.prepare_price.new.self c.args.attempt_no c.args.moves.now _ c.last.ensures c.requires c.prepare_price.ensures.within c.prepare_price.ensures.made in
    ((refl, λ x. tt, told.0), record { offer = told.1.0; right = told.1.1; within = told.2; same = tt })
