-- How the history that a seat has seen goes on where its worker offers.
use Rattle.std.specs.Prelude.{◌≡◌, List, [], ◌∷◌, ◌++◌}
use Rattle.ih_journal.specs.Tried.{Tried}
use Rattle.ih_journal.specs.declared.entries.Verdict.{Verdict}
use Rattle.ih_journal.specs.Base.{Base}
use Rattle.ih_cellbook.specs.Offered.{Offered}
use Rattle.ih_cellbook.specs.Laws.{HasNoneBy}
use Rattle.ih_cellbook.specs.Offers.{entry_of}

-- H begins with what was seen, goes on with entries of other workers, and ends with that of the offer, with this
-- verdict
pub record EndsWith (b : Base) (o : Offered) (verdict : Verdict) (seen H : List Tried) : Type 0 where
  pub others : List Tried
  pub history : H ≡ (seen ++ others) ++ entry_of b (seen ++ others) o verdict ∷ []
  pub none : HasNoneBy o.worker others
