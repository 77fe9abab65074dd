use Rattle.ih_page.specs.Page.{page_of}
use Rattle.ih_page.proofs.pages.page.Goals as goal

pub returns : goal.returns
unfolding page_of
returns c = rw c.in_ok-data.ensures at c.page_with.ensures
