-- Searches, fills and bounds.
pub use Rattle.ih_improve.specs.Better.{is_better, is_better_than, of_bill, standing_of}
pub use Rattle.ih_improve.specs.Following.{IsNoDearer, IsNoWorse, MayFollow}
pub use Rattle.ih_improve.specs.Given.{AreSettingsOf, widest}
pub use Rattle.ih_improve.specs.ImproverState.{ImproverState, IsSound, Leads, MayGoOn, led_to, terms_of}
pub use Rattle.ih_improve.specs.Laws.{IsDetermined}
pub use Rattle.ih_improve.specs.Legs.{Leaves, LegState}
pub use Rattle.ih_improve.specs.Pinned.{PinsState, pins_of}
pub use Rattle.ih_improve.specs.Terms.{Terms}
pub use Rattle.ih_improve.specs.declared.settings.Settings.{Settings}
pub use Rattle.ih_improve.specs.declared.settings.TheConstants.{MAX_ROUNDS}
pub use Rattle.ih_improve.specs.declared.spans.Span.{Span}
pub use Rattle.ih_bound.specs.Bounds.{HoldsOfAll}
pub use Rattle.ih_bound.specs.Judging.{HasGap}
pub use Rattle.ih_bound.specs.Texts.{gap_text, limit_line}
pub use Rattle.ih_bound.specs.declared.outcomes.Outcome.{Outcome}
pub use Rattle.ih_fill.specs.Fill.{fill}
