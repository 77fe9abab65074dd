use Rattle.std.proofs.Common.{◌∙◌}
use Rattle.ih_costs.specs.CellLedgers.{timetable_of}
use Rattle.ih_costs.proofs.TouchLemmas.{gathered-footprint}
use Rattle.ih_costs.proofs.footprints.foot_of.Goals as goal

pub returns-clause-cells : goal.returns-clause-cells
returns-clause-cells c =
    c.take_from.ensures.cells
    ∙ gathered-footprint c.args.inst.now.draft (timetable_of c.args.ledgers.now) c.args.mv.now c.args.scratch.now.set c.gather_move.new.scratch.set
    c.requires.free.sizes c.requires.free.empty c.gather_move.ensures.gathers
