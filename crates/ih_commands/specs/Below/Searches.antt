-- Searches, fills and bounds.
pub use Rattle.ih_improve.specs.declared.settings.TheConstants.{MAX_KEEP, MAX_ROUNDS}
pub use Rattle.ih_bound.specs.Bounds.{AddUp, HoldsOfAll, IsFoundIn, NoneIsFeasible}
pub use Rattle.ih_bound.specs.Hints.{HasPrices, IsHinted}
pub use Rattle.ih_bound.specs.Judging.{HasGap, judged, no_infeasibility}
pub use Rattle.ih_bound.specs.Texts.{bound_text}
pub use Rattle.ih_bound.specs.declared.judging.Judged.{Judged}
pub use Rattle.ih_bound.specs.declared.outcomes.Outcome.{Outcome}
