-- A list in which the numbers of cells are gathered.
use Rattle.std.specs.Prelude.{◌≡◌, ℕ, ◌==◌, ◌&&◌, ◌||◌, Bool, false, List}
use Rattle.ih_tables.specs.declared.cells.Cell.{Cell}
use Rattle.ih_tables.specs.declared.cells.Cell.TheVariants.{Stay, RoomDay, TheatreDay, SurgeonDay, RoomShift, NurseShift, Care}
use Rattle.ih_tables.specs.Sizes.{NumberingState}
use Rattle.ih_plan.specs.Cells.{number_in, count_in, IsCellIn}
use Rattle.ih_plan.specs.Sums.{which_below, is_listed}

-- The numbers of cells that were gathered, and the sizes by which the cells are numbered.
pub record CellsState : Type 0 where
  pub sizes : NumberingState
  pub cells : List ℕ

-- the cell is in the list
abbrev pub holds : CellsState → Cell → Bool
holds v c = is_listed (number_in v.sizes c) v.cells

-- the numbers of the list, rising
abbrev pub settled : CellsState → List ℕ
settled v = which_below (count_in v.sizes) (λ n. is_listed n v.cells)

-- The cells afterwards are those before and those that pass.
pub record Gathers (before after : CellsState) (passes : Cell → Bool) : Type 0 where
  pub sizes : after.sizes ≡ before.sizes
  pub cells : (c : Cell) → IsCellIn before.sizes c → holds after c ≡ (holds before c || passes c)

-- both are the same cell
unfoldable pub same_cell : Cell → Cell → Bool
same_cell (Stay p) (Stay q) = p.0 == q.0
same_cell (RoomDay r d) (RoomDay s e) = (r.0 == s.0) && (d.0 == e.0)
same_cell (TheatreDay t d) (TheatreDay u e) = (t.0 == u.0) && (d.0 == e.0)
same_cell (SurgeonDay s d) (SurgeonDay u e) = (s.0 == u.0) && (d.0 == e.0)
same_cell (RoomShift r k) (RoomShift s l) = (r.0 == s.0) && (k.0 == l.0)
same_cell (NurseShift n k) (NurseShift m l) = (n.0 == m.0) && (k.0 == l.0)
same_cell (Care x) (Care y) = x.0 == y.0
same_cell c e = false
