use Rattle.std.proofs.Common.{◌≡◌, ◌∙◌, sym, ap, subst, List}
use Rattle.std.specs.Prelude.{◌||◌}
use Rattle.ih_plan.specs.declared.moves.Write.{Write}
use Rattle.ih_plan.specs.Sums.{is_listed}
use Rattle.ih_plan.specs.Expand.{expand}
use Rattle.ih_plan.specs.Cells.{IsCellIn}
use Rattle.ih_footprint.specs.CellsState.{Gathers}
use Rattle.ih_footprint.proofs.LookLemmas.{looks-inside}
use Rattle.ih_costs.specs.CellLedgers.{timetable_of}
use Rattle.ih_costs.specs.AtOnce.{touch_at_once}
use Rattle.ih_costs.proofs.StandLemmas.{plan-fits}
use Rattle.ih_costs.proofs.TouchLemmas.{gathered-touches}
use Rattle.ih_costs.proofs.footprints.gather_move.Goals as goal

pub looks-requires : goal.looks-requires
looks-requires c = λ e looked.
    subst (λ z. IsCellIn z e) (sym (c.clear.ensures.sizes ∙ c.requires.sizes)) (looks-inside c.args.inst.now.draft c.args.mv.now c.requires.move_in e looked)

pub returns-clause-gathers : goal.returns-clause-gathers
returns-clause-gathers c =
    let I = c.args.inst.now.draft in
    let P = timetable_of c.args.ledgers.now in
    let m = c.args.mv.now in
    let writes : c.as_slice.result.now ≡ expand I P m = c.as_slice.ensures ∙ c.expand_here.ensures.made in
    gathered-touches I P m c.args.scratch.now.set c.clear.new.self c.looks.new.out c.add_all.new.self c.gather_all.new.cells
    (plan-fits I P c.args.ledgers.now c.requires.stands) c.requires.move_in
    (c.clear.ensures.sizes ∙ c.requires.sizes) c.clear.ensures.cells c.looks.ensures c.requires.set c.add_all.ensures.sizes
    (λ n. c.add_all.ensures.cells n ∙ ap (λ ns. is_listed n c.args.scratch.now.set.cells || is_listed n ns) c.cells.ensures.cells)
    (subst (λ (ws : List Write). Gathers c.add_all.new.self c.gather_all.new.cells (touch_at_once I P ws)) writes c.gather_all.ensures)
