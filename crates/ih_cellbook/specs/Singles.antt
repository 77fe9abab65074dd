-- What keeps a single move.
use Rattle.std.specs.Prelude.{[], ◌∷◌}
use Rattle.ih_cellbook.specs.Offered.{Offered, offered_by}
use Rattle.ih_cellbook.specs.declared.offers.Offer.{Offer}

-- what an offer of one move stands for
abbrev pub offered_of : Offer → Offered
offered_of o = offered_by o.worker o.number o.seen (o.mv ∷ []) o.price o.reads o.frozen
