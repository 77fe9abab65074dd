use Rattle.std.proofs.Common.{arith, refl, rules}
use denote.Param.Send.{sendable}
use Rattle.ih_snapshot.proofs.replicas.Replica.TheSendSync.{the_send as replica_crosses}
use Rattle.ih_moves.proofs.chains.Chain.TheSendSync.{the_send as chain_crosses}
use Rattle.ih_chain.proofs.entries.ChainEntry.TheSendSync.{the_send as entry_crosses}
use Rattle.ih_chain.proofs.entries.ChainOffer.TheSendSync.{the_send as offer_crosses}
use Rattle.ih_chain.proofs.running.run_chains.Goals as goal

-- all may cross threads, no chain is tried again or frozen, and none is longer than there is room for
pub search_at_desk-requires : goal.search_at_desk-requires
search_at_desk-requires g c κs =
    let once = c.requires.once in (
      search (sendable, replica_crosses, offer_crosses) depth 20,
      (
        search (sendable, entry_crosses) depth 20,
        (
          search (sendable, chain_crosses) depth 20,
          (
            search (sendable, offer_crosses) depth 20,
            (
              search rules,
              (
                search rules,
                (
                  (refl, tt),
                  (
                    record { start = c.requires.start; lawful = c.requires.lawful },
                    (omega (arith, once), (omega arith, (c.requires.some, c.requires.short))),
                  ),
                ),
              ),
            ),
          ),
        ),
      ),
    )
