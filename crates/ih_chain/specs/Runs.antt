-- What a search by chains has made.
use Rattle.std.specs.Prelude.{◌≡◌, ◌^◌, ℕ, ℤ, All, List, Option, IfSome, option_map}
use Rattle.ih_tables.specs.Bills.{IsWithin}
use Rattle.ih_plan.specs.Timetable.{IsPlanOf, Timetable}
use Rattle.ih_journal.specs.declared.settings.Options.{Options}
use Rattle.ih_journal.specs.Base.{Base}
use Rattle.ih_journal.specs.Best.{BestIs}
use Rattle.ih_journal.specs.History.{plan_at}
use Rattle.ih_journal.specs.Legal.{IsFull}
use Rattle.ih_cellbook.specs.Legal.{AreExact}
use Rattle.ih_chain.specs.declared.entries.ChainEntry.{ChainEntry}
use Rattle.ih_chain.specs.Entries.{chain_tries}

-- the entries of a search, its best, and the timetable there
pub record ChainRunState : Type 0 where
  pub options : Options
  -- how many moves each chain has
  pub each : ℕ
  pub entries : List ChainEntry
  pub best : Option (ℕ × ℤ)
  pub plan : Option Timetable

-- the timetable at the place of the best, where there is one
abbrev pub best_plan : Base → List ChainEntry → Option (ℕ × ℤ) → Option Timetable
best_plan b H best = option_map (λ (k : ℕ × ℤ). plan_at b (chain_tries H) k.0) best

-- The entries are a full history of chains of so many moves over b, in which each accepted price is exact, and each
-- number of a price at most 10^11 in magnitude; the best is that of the history, and there is none exactly where no
-- timetable of it is feasible.
pub record IsRunOf (b : Base) (many : ℕ) (r : ChainRunState) : Type 0 where
  pub options : r.options ≡ b.options
  pub each : r.each ≡ many
  pub full : IsFull b many (chain_tries r.entries)
  pub exact : AreExact b (chain_tries r.entries)
  pub within : All (λ (e : ChainEntry). IsWithin (10 ^ 11) e.price) r.entries
  pub best : BestIs b (chain_tries r.entries) r.best
  pub plan : r.plan ≡ best_plan b r.entries r.best
  pub fits : IfSome r.plan (IsPlanOf b.instance)
