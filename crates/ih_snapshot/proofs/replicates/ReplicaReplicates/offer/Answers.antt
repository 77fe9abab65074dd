use Rattle.std.proofs.Common.{refl}
use Rattle.ih_snapshot.proofs.Pricing.{offer-told}
use Rattle.ih_snapshot.proofs.replicates.ReplicaReplicates.offer.Goals as goal

pub returns : goal.returns
returns g c =
    let told = offer-told c.args.self.now c.prepare_offer.new.self c.args.attempt_no (g.E.Attempt.Attempted.moves c.args.attempt.now) c.prepare_offer.new.self.last refl c.requires c.prepare_offer.ensures.within c.prepare_offer.ensures.made in
    record { offer = told.1.0; right = told.1.1; base = told.0.0; worker = told.0.1; same = told.0.2 }
