use Rattle.std.proofs.Common.{◌≡◌, map}
use Rattle.ih_journal.specs.Base.{Base}
use Rattle.ih_cellbook.specs.Legal.{IsHistoryOver}
use Rattle.ih_cellbook.proofs.Scanning.{HasCome}
use Rattle.ih_cellbook.proofs.best.best_in.Given as goal

abbrev pub invariant-loop-entry : goal.invariant-loop-entry
invariant-loop-entry g l = record {
  place : l.place ≡ l.entry-index;
  come : (b : Base) → IsHistoryOver b l.inst.draft l.first (map g.E.Logged.tried l.entries) → HasCome b (map g.E.Logged.tried l.entries) l.entry-index l.now l.best;
}
