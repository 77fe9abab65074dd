-- Moves that may change a choice that stays.
use Rattle.std.specs.Prelude.{Bool, ◌||◌}
use Rattle.ih_plan.specs.declared.moves.Move.{Move}
use Rattle.ih_improve.specs.Frozen.{may_be_frozen}
use Rattle.ih_improve.specs.Pinned.{may_be_pinned}
use Rattle.ih_improve.specs.Terms.{Terms}

-- the choice may be one before the freeze day, or one that is pinned
abbrev pub may_be_kept : Terms → Move → Bool
may_be_kept t m = may_be_frozen t.start t.settings.freeze m || may_be_pinned t.instance t.start t.pins m
