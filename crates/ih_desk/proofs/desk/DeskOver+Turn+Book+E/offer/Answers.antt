use Rattle.std.proofs.Common.{◌∙◌, ap, refl, sym}
use Rattle.ih_cellbook.specs.BookState.{BookState}
use Rattle.ih_turn.specs.Seats.{history, value_of}
use Rattle.ih_desk.proofs.HistoryLemmas.{ends-lent, right-lent}
use Rattle.ih_desk.proofs.Makers.{has-offered}
use Rattle.ih_desk.proofs.desk.DeskOver+Turn+Book+E.offer.Goals as goal

pub commit-verdict-requires : goal.commit-verdict-requires
commit-verdict-requires g c =
    right-lent _ (g.E.Offer.Offers.offered c.args.offer.now) _ (history c.args.seat) (value_of c.take-held.result) c.get_mut.result.now
    c.get_mut.ensures.value c.take-held.ensures.base c.requires.may.worker c.take-held.ensures.begins
    c.right_offers_stay_right.ensures c.requires.may.right

pub returns : goal.returns
returns g c = record {
  offered = has-offered c.args.self.now c.args.seat c.give.result c.requires.may.own _ _ _ _ c.take-held.ensures.seat c.give.ensures.own c.give.ensures.seat
      c.commit-verdict.new.book (c.commit-verdict.ensures.base ∙ (ap (λ (k : BookState). k.base) c.get_mut.ensures.value ∙ c.take-held.ensures.base)) c.give.ensures.list
      _ refl c.commit-verdict.ensures.legal (g.E.Offer.Offers.offered c.args.offer.now) c.commit-verdict.result _ _ _
      (c.take-held.ensures.list ∙ ap (λ (k : BookState). k.entries) (sym c.get_mut.ensures.value)) c.commit-verdict.ensures.entries c.give.ensures.made
      (ends-lent _ (g.E.Offer.Offers.offered c.args.offer.now) _ (history c.args.seat) (value_of c.take-held.result) c.get_mut.result.now
      c.get_mut.ensures.value c.take-held.ensures.base c.requires.may.worker c.take-held.ensures.begins
      c.commit-verdict.result (history c.give.result) (c.give.ensures.list ∙ c.commit-verdict.ensures.entries));
}
