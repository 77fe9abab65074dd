use Rattle.std.proofs.Common.{◌∙◌, sym}
use Rattle.ih_cellbook.proofs.Committing.{entry-legal}
use Rattle.ih_cellbook.proofs.Machine.{event-same}
use Rattle.ih_cellbook.proofs.books.Book.commit.Goals as goal

pub returns-clause-legal : goal.returns-clause-legal
returns-clause-legal g c = entry-legal c.args.self.now.base c.args.self.now.entries (g.E.Offer.Offers.offered c.args.offer.now) c.judge-verdict.result c.requires c.judge-verdict.ensures

pub returns-clause-event : goal.returns-clause-event
returns-clause-event g c s same legal =
    c.add.ensures.entries
    ∙ sym (event-same c.args.self.now.base c.args.self.now.entries (g.E.Offer.Offers.offered c.args.offer.now) c.requires s c.judge-verdict.result same legal.versions
    c.judge-verdict.ensures)
