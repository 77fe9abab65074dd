-- Histories that are legal but for their draws.
use Rattle.std.specs.Prelude.{◌≡◌, ℕ, ◌+◌, List, take, Some, slice_get}
use Rattle.ih_tables.specs.declared.bills.Bill.{Bill}
use Rattle.ih_tables.specs.declared.drafts.Draft.{Draft}
use Rattle.ih_plan.specs.BillOf.{bill_of, change_of_bill}
use Rattle.ih_plan.specs.Timetable.{IsPlanOf}
use Rattle.ih_journal.specs.Tried.{Tried}
use Rattle.ih_journal.specs.declared.entries.Verdict.TheVariants.{Accepted}
use Rattle.ih_journal.specs.Base.{Base}
use Rattle.ih_journal.specs.History.{plan_at}
use Rattle.ih_journal.specs.Legal.{IsLegalButDraw}

-- each entry may come after those before it, whether or not its attempt was drawn
abbrev pub AreLegalButDraws : Base → List Tried → Type 0
AreLegalButDraws b H = (k : ℕ) (e : Tried) → slice_get H k ≡ Some e → IsLegalButDraw b (take k H) e

-- each accepted price is the change of the bill at its own place
abbrev pub AreExact : Base → List Tried → Type 0
AreExact b H = (k : ℕ) (e : Tried) → slice_get H k ≡ Some e → e.verdict ≡ Accepted
    → e.price ≡ change_of_bill b.instance (plan_at b H k) (plan_at b H (k + 1))

-- The entries are a legal history over b, whose start has this bill.
pub record IsHistoryOver (b : Base) (I : Draft) (first : Bill) (H : List Tried) : Type 0 where
  pub instance : b.instance ≡ I
  pub start : IsPlanOf b.instance b.start
  pub bill : first ≡ bill_of b.instance b.start
  pub legal : AreLegalButDraws b H
