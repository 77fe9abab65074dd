-- What a round begins with, and what a worker leaves behind it.
use Rattle.std.specs.Prelude.{◌≡◌, ℕ}
use Rattle.ih_tables.specs.declared.drafts.Draft.{Draft}
use Rattle.ih_plan.specs.Timetable.{Timetable, IsPlanOf}
use Rattle.ih_improve.specs.declared.comparing.Standing.{Standing}
use Rattle.ih_improve.specs.declared.settings.Settings.{Settings}
use Rattle.ih_improve.specs.declared.spans.Span.{Span}
use Rattle.ih_improve.specs.Better.{standing_of}
use Rattle.ih_improve.specs.Following.{MayFollow}
use Rattle.ih_improve.specs.Pinned.{PinsState}
use Rattle.ih_improve.specs.Settings.{IsLawful}
use Rattle.ih_improve.specs.Terms.{Terms}

-- All that a worker goes by in a round, beside its own number: which round it is, what that is to do, and from which
-- timetable it goes on.
pub record LegState : Type 0 where
  pub instance : Draft
  pub start : Timetable
  pub pins : PinsState
  pub settings : Settings
  pub round : ℕ
  pub span : Span
  pub from : Timetable

-- what its search goes by
abbrev pub terms_of_leg : LegState → Terms
terms_of_leg s = record { instance = s.instance; start = s.start; pins = s.pins; settings = s.settings }

-- a round goes on from a timetable that may take the start's place, and that stands so
pub record IsLeg (s : LegState) (standing : Standing) : Type 0 where
  pub lawful : IsLawful s.settings
  pub start : IsPlanOf s.instance s.start
  pub from : MayFollow (terms_of_leg s) s.start s.from
  pub standing_is : standing ≡ standing_of (terms_of_leg s) s.from

-- what a worker may leave: whatever may take the place of the timetable from which it went on
abbrev pub Leaves : LegState → ℕ → Timetable → Type 0
Leaves s worker P = MayFollow (terms_of_leg s) s.from P
