use Rattle.std.proofs.Common.{refl}
use Rattle.ih_snapshot.proofs.Pricing.{offer-told}
use Rattle.ih_snapshot.proofs.replicas.Replica.offer.Goals as goal

pub returns : goal.returns
returns g c =
    let told = offer-told c.args.self.now c.prepare_offer.new.self c.args.attempt_no (g.E.Attempt.Attempted.moves c.args.attempt.now) _ c.last.ensures c.requires c.prepare_offer.ensures.within c.prepare_offer.ensures.made in
    ((refl, λ x. tt, told.0), record { offer = told.1.0; right = told.1.1; within = told.2; same = tt })
