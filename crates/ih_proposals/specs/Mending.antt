-- Single moves that take a broken rule away.
use Rattle.ih_tables.specs.declared.drafts.Draft.{Draft}
use Rattle.ih_plan.specs.Expand.{IsMoveOf}
use Rattle.ih_proposals.specs.declared.mending.Mend.{Mend}

-- The move is in range.
abbrev pub IsMend : Draft → Mend → Type 0
IsMend I m = IsMoveOf I m.mv
