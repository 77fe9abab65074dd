use Rattle.std.proofs.Common.{subst, sym}
use Rattle.ih_cellbook.specs.Replicas.{MayFollow}
use Rattle.ih_cellbook.specs.ReplicaState.{ReplicaState}
use Rattle.ih_chain.specs.Entries.{chain_tries}
use Rattle.ih_chain.proofs.replicas.ChainReplica.advance.Goals as goal

pub advance-requires : goal.advance-requires
advance-requires c = record {
  follow = subst (λ (r : ReplicaState). MayFollow r (chain_tries c.args.entries.now)) (sym c.self.view_is) c.requires.follow;
}
