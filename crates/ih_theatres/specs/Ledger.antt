-- Which timetable a ledger of theatres stands for.
use Rattle.std.specs.Prelude.{◌≡◌, Option, map, option_map}
use Rattle.ih_tables.specs.declared.drafts.Draft.{Draft}
use Rattle.ih_tables.specs.declared.ids.TheatreNo.{TheatreNo}
use Rattle.ih_tables.specs.Sizes.{theatre_count, surgeon_count}
use Rattle.ih_plan.specs.declared.moves.Placement.{Placement}
use Rattle.ih_plan.specs.Timetable.{Timetable, IsPlanOf, stay_of}
use Rattle.ih_plan.specs.Costs.{surgeon_of}
use Rattle.ih_theatres.specs.declared.theatres.Theatres.{Theatres}
use Rattle.ih_theatres.specs.Days.{AreDays, AreMinutes, theatre_day, surgeon_day}

-- the theatre of a stay
abbrev pub theatre_in : Option Placement → Option TheatreNo
theatre_in stay = option_map (λ (at : Placement). at.theatre) stay

-- The ledger stands for the timetable P of the instance I: it has each patient's theatre,
-- the patients of each theatre's and each surgeon's day, and their minutes of surgery.
pub record IsLedgerOf (I : Draft) (P : Timetable) (l : Theatres) : Type 0 where
  pub plan : IsPlanOf I P
  pub theatres : l.theatres.items ≡ map theatre_in P.stays
  pub theatre_days : AreDays I (theatre_count I) (λ p. theatre_day I (stay_of P p)) l.theatre_days
  pub surgeon_days : AreDays I (surgeon_count I) (λ p. surgeon_day I (surgeon_of I p) (stay_of P p)) l.surgeon_days
  pub theatre_minutes : AreMinutes I l.theatre_days l.theatre_minutes.items
  pub surgeon_minutes : AreMinutes I l.surgeon_days l.surgeon_minutes.items
