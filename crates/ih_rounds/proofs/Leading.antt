-- Where a round leads.
use Rattle.std.proofs.Common.{◌≡◌, ℕ, ◌≤◌, refl, ap, arith, List, length, take, Option, Some, None, ℤ}
use Rattle.std.proofs.lemmas.List.{length-map, take_all}
use Rattle.ih_tables.specs.declared.bills.Bill.{Bill}
use Rattle.ih_plan.specs.Timetable.{IsPlanOf}
use Rattle.ih_plan.specs.BillOf.{bill_of}
use Rattle.ih_journal.specs.declared.entries.Entry.{Entry}
use Rattle.ih_journal.specs.Tried.{Tried, tried, tries}
use Rattle.ih_journal.specs.Base.{Base}
use Rattle.ih_journal.specs.Best.{BestIs}
use Rattle.ih_journal.specs.History.{after_entries}
use Rattle.ih_journal.specs.Legal.{AreLegal}
use Rattle.ih_journal.specs.Settings.{IsLawful}
use Rattle.ih_cellbook.specs.Legal.{AreLegalButDraws, IsHistoryOver}
use Rattle.ih_cellbook.proofs.EntryLimits.{legal-few}
use Rattle.ih_rounds.specs.Rounds.{next_start}
use Rattle.ih_rounds.specs.Steps.{IsAnswer, end_of}

pub but-draws : (b : Base) (H : List Tried) → AreLegal b 1 H → AreLegalButDraws b H
but-draws b H legal k e h = (legal k e h).entry

-- a legal history has at most a million entries
short : (b : Base) (H : List Tried) → IsLawful b.options → AreLegal b 1 H → length H ≤ 1000000
short b H lawful legal = let few = (legal-few b H (but-draws b H legal)).most in let most = lawful.entries in omega (arith, few, most)

pub few-entries : (b : Base) (H : List Entry) → IsAnswer b H → length H ≤ 1000000
few-entries b H is = let most = short b (tries H) is.lawful is.full.legal in let many = length-map H tried in omega (arith, most, many)

-- the place at which the next round starts is one of the history
pub end-inside : (b : Base) (H : List Tried) (found : Option (ℕ × ℤ)) → BestIs b H found → end_of found (length H) ≤ length H
end-inside b H None none = omega arith
end-inside b H (Some best) is = is.0.place

pub leads : (b : Base) (H : List Tried) (found : Option (ℕ × ℤ)) → after_entries b.instance b.start (take (end_of found (length H)) H) ≡ next_start b H found
leads b H None = ap (after_entries b.instance b.start) (take_all (length H) H (omega arith))
leads b H (Some best) = refl

-- a legal history over the start, whose bill this is
pub over : (b : Base) (H : List Tried) (first : Bill) → IsPlanOf b.instance b.start → first ≡ bill_of b.instance b.start → AreLegal b 1 H
    → IsHistoryOver b b.instance first H
over b H first start bill legal = record { instance = refl; start = start; bill = bill; legal = but-draws b H legal }
