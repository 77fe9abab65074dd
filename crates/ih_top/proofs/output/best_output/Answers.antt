use Rattle.ih_top.specs.Below.Searches.{base_given, tries}
use Rattle.ih_cellbook.proofs.LegalEntries.{moves-in}
use Rattle.ih_top.proofs.output.best_output.Goals as goal

pub plan_at-requires-clause-moves : goal.plan_at-requires-clause-moves
plan_at-requires-clause-moves c = moves-in (base_given c.args.given.now) 1 (tries c.args.entries.now) c.requires.legal
