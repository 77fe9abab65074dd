use Rattle.ih_cellbook.proofs.Within.{stands-same}
use Rattle.ih_search_tests.proofs.tests.rounds.is_priced.Goals as goal

pub returns : goal.returns
returns c =
    let v = c.args.book.now in
    stands-same v.base v.entries c.args.replica.now c.requires.replica c.price-offer.follows.lender-at-none c.price-offer.follows.holds-at-none.2
