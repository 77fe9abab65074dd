-- Entries and offers of chains in histories.
use Rattle.std.specs.Prelude.{List, false, map}
use Rattle.ih_journal.specs.Tried.{Tried, tried_by}
use Rattle.ih_cellbook.specs.Offered.{Offered, offered_by}
use Rattle.ih_chain.specs.declared.entries.ChainEntry.{ChainEntry}
use Rattle.ih_chain.specs.declared.entries.ChainOffer.{ChainOffer}

-- what an entry of a chain stands for
abbrev pub chain_tried : ChainEntry → Tried
chain_tried e = tried_by e.worker e.number 0 e.seen e.moves e.price e.verdict

-- what entries of chains stand for
abbrev pub chain_tries : List ChainEntry → List Tried
chain_tries es = map chain_tried es

-- what an offer of a chain stands for
abbrev pub chain_offered : ChainOffer → Offered
chain_offered o = offered_by o.worker o.number o.seen o.moves o.price o.reads false
