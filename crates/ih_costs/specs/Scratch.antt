-- Room that the calls for moves take.
use Rattle.std.specs.Prelude.{◌≡◌, []}
use Rattle.ih_tables.specs.declared.drafts.Draft.{Draft}
use Rattle.ih_tables.specs.Sizes.{sizes_of}
use Rattle.ih_costs.specs.declared.scratch.Scratch.{Scratch}

-- It is for the cells of the instance, and none are gathered in it.
pub record IsFree (I : Draft) (s : Scratch) : Type 0 where
  pub sizes : s.set.sizes ≡ sizes_of I
  pub empty : s.set.cells ≡ []
