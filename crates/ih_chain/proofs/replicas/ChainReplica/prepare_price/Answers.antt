use Rattle.std.proofs.Common.{◌≡◌, subst}
use Rattle.ih_cellbook.specs.ReplicaState.{ReplicaState}
use Rattle.ih_snapshot.specs.Noting.{priced_of}
use Rattle.ih_chain.proofs.replicas.ChainReplica.prepare_price.Goals as goal

pub returns-clause-made : goal.returns-clause-made
returns-clause-made c =
    subst (λ (s : ReplicaState). c.prepare_price.new.self ≡ record s { last = priced_of s c.args.attempt_no c.args.moves.now }) c.self.view_is c.prepare_price.ensures.made
