use Rattle.std.proofs.Common.{◌^◌, ◌∙◌, [], ap, sym, subst, Bool}
use Rattle.ih_tables.specs.Bills.{IsWithin}
use Rattle.std.specs.Prelude.{if◌then◌else◌}
use Rattle.ih_cellbook.specs.ReplicaState.{ReplicaState}
use Rattle.ih_snapshot.specs.Noting.{offer_with, reads_of}
use Rattle.ih_snapshot.proofs.replicas.Replica.prepare_offer.Goals as goal

pub returns-clause-made : goal.returns-clause-made
returns-clause-made g c =
    let r = c.args.self.now in
    let n = c.args.attempt_no in
    let m = g.E.Attempt.Attempted.moves c.args.attempt.now in
    c.read.ensures
    ∙ ap (λ (s : ReplicaState). record s { last = record s.last { reads = record s.last.reads { pairs = if c.price_into_last-compared.result then reads_of s m else s.last.reads.pairs } } })
    c.price_into_last-compared.ensures.made
    ∙ ap (λ (t : Bool). record r { last = offer_with r n m (if t then reads_of r m else []) }) c.price_into_last-compared.ensures.compared

pub returns-clause-within : goal.returns-clause-within
returns-clause-within g c =
    subst (IsWithin (10 ^ 11)) (sym (ap (λ (s : ReplicaState). s.last.price) c.read.ensures)) c.price_into_last-compared.ensures.within
