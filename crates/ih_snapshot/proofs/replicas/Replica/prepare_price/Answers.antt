use Rattle.std.proofs.Common.{◌^◌, ◌∙◌, ap, sym, subst}
use Rattle.ih_tables.specs.Bills.{IsWithin}
use Rattle.ih_cellbook.specs.ReplicaState.{ReplicaState}
use Rattle.ih_snapshot.specs.Noting.{reads_of}
use Rattle.ih_snapshot.proofs.replicas.Replica.prepare_price.Goals as goal

pub returns-clause-made : goal.returns-clause-made
returns-clause-made g c =
    let m = g.E.Attempt.Attempted.moves c.args.attempt.now in
    c.read.ensures
    ∙ ap (λ (s : ReplicaState). record s { last = record s.last { reads = record s.last.reads { pairs = reads_of s m } } }) c.price_into_last-compared.ensures.made

pub returns-clause-within : goal.returns-clause-within
returns-clause-within g c =
    subst (IsWithin (10 ^ 11)) (sym (ap (λ (s : ReplicaState). s.last.price) c.read.ensures)) c.price_into_last-compared.ensures.within
