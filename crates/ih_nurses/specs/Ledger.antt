-- What ties a ledger of nurses to the timetable that it stands for.
use Rattle.std.specs.Prelude.{◌≡◌, ◌^◌, ℕ, List}
use Rattle.ih_tables.specs.declared.drafts.Draft.{Draft}
use Rattle.ih_tables.specs.declared.bills.Bill.{Bill}
use Rattle.ih_tables.specs.declared.cells.Cell.{Cell}
use Rattle.ih_tables.specs.Bills.{IsWithin}
use Rattle.ih_links.specs.Lists.{LinksState}
use Rattle.ih_plan.specs.Timetable.{Timetable, IsPlanOf}
use Rattle.ih_plan.specs.BillOf.{as_bill}
use Rattle.ih_plan.specs.Cells.{part_at}
use Rattle.ih_nurses.specs.declared.nurses.Nurses.{Nurses}
use Rattle.ih_nurses.specs.declared.loads.NurseLoad.{NurseLoad}
use Rattle.ih_nurses.specs.Here.{AreHere}
use Rattle.ih_nurses.specs.Loads.{AreLoads}
use Rattle.ih_nurses.specs.Counts.{AreCounts}

-- The timetable P is the one that is kept, the lists of each day have just the persons who are present, and the tables
-- have each nurse's workload, and for each person how many of its shifts each nurse has.
pub record IsTied (I : Draft) (P plan : Timetable) (here : List LinksState) (loads : List NurseLoad)
    (counts : List ℕ) : Type 0 where
  pub plan_is : plan ≡ P
  pub fits : IsPlanOf I P
  pub here_are : AreHere I P here
  pub loads_are : AreLoads I P loads
  pub counts_are : AreCounts I P counts

-- the ledger stands for the timetable P of instance I
abbrev pub IsLedgerOf : Draft → Timetable → Nurses → Type 0
IsLedgerOf I P ledger = IsTied I P ledger.plan ledger.here.items ledger.loads.items ledger.counts.items

-- the timetable that the ledger keeps
abbrev pub plan_of : Nurses → Timetable
plan_of ledger = ledger.plan

-- The bill is a cell's part, at whichever timetable the ledger stands for, and each of its numbers is at most 10^11.
pub record TellsPart (I : Draft) (ledger : Nurses) (c : Cell) (b : Bill) : Type 0 where
  pub part : (P : Timetable) → IsLedgerOf I P ledger → b ≡ as_bill (part_at I P c)
  pub within : IsWithin (10 ^ 11) b
