use Rattle.std.proofs.Common.{lit≤, refl, rules}
use denote.Param.Send.{sendable}
use Rattle.ih_cellbook.proofs.offers.Offer.TheSendSync.{the_send as offer_crosses}
use Rattle.ih_journal.proofs.entries.Entry.TheSendSync.{the_send as entry_crosses}
use Rattle.ih_snapshot.proofs.replicas.Replica.TheSendSync.{the_send as replica_crosses}
use Rattle.ih_workers.proofs.searching.search_by_moves.Goals as goal

-- all may cross threads, and every freeze day is one under which a move may be tried
pub search_at_desk-requires : goal.search_at_desk-requires
search_at_desk-requires g c κs = (
  search (sendable, replica_crosses, offer_crosses) depth 20,
  (
    search (sendable, entry_crosses) depth 20,
    (
      search rules,
      (
        search (sendable, offer_crosses) depth 20,
        (search rules, (search rules, ((refl, tt), (c.requires, (c.requires.lawful.retries, (c.freeze_of-freeze.ensures, (lit≤ tt, lit≤ tt))))))),
      ),
    ),
  ),
)
