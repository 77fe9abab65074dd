use Rattle.std.proofs.Common.{subst}
use Rattle.ih_plan.specs.Cells.{IsCellIn}
use Rattle.ih_footprint.specs.CellsState.{Gathers}
use Rattle.ih_footprint.specs.Pieces.{in_days}
use Rattle.ih_footprint.proofs.GatherLemmas.{gathers-like, gathers-both}
use Rattle.ih_footprint.proofs.FootLemmas.{placement-pieces}
use Rattle.ih_footprint.proofs.footprints.add_placement.Goals as goal

pub returns : goal.returns
returns c =
    let I = c.args.inst.now.draft in
    let at = c.args.at in
    let patient = c.patient-patient.result.now in
    let days = subst (λ to. Gathers c.args.out.now c.add_days.new.out (in_days c.args.plan.now at.room.0 at.day.0 to)) c.end_of.ensures.value c.add_days.ensures in
    gathers-like (λ e range. placement-pieces I c.args.plan.now c.args.patient_no.0 at patient c.patient-patient.ensures e (subst (λ z. IsCellIn z e) c.requires.sizes range))
    (gathers-both (gathers-both days c.add_cell.ensures) c.add_cell-2.ensures)
