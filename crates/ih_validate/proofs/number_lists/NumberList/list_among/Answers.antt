use Rattle.ih_validate.proofs.number_lists.NumberList.list_among.Goals as goal

pub keep-requires : goal.keep-requires
keep-requires g c = c.requires.callable.2 _ (c.requires.callable.1 c.loop-x.x-index 0 c.loop-x-test.true)
