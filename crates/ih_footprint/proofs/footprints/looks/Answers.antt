use Rattle.std.proofs.Common.{sym, ◌∙◌}
use Rattle.ih_tables.specs.declared.cells.Cell.TheVariants.{Stay}
use Rattle.ih_footprint.proofs.GatherLemmas.{gathers-like, gathers-none, same_cell-self}
use Rattle.ih_footprint.proofs.LookLemmas.{withdraw-looks, set_day-looks, set_room-looks, set_theatre-looks, idle-looks, place-looks, nurse-looks, nurse_run-looks}
use Rattle.ih_footprint.proofs.footprints.looks.Goals as goal

pub add_cell-requires : goal.add_cell-requires
add_cell-requires c = c.requires (Stay c.in-Withdraw.p) (sym (withdraw-looks c.args.mv.now c.in-Withdraw.p c.in-Withdraw.is (Stay c.in-Withdraw.p)) ∙ same_cell-self (Stay c.in-Withdraw.p))

pub returns-in-Withdraw : goal.returns-in-Withdraw
returns-in-Withdraw c = gathers-like (λ e range. withdraw-looks c.args.mv.now c.in-Withdraw.p c.in-Withdraw.is e) c.add_cell.ensures

pub add_cell-requires-in-SetDay : goal.add_cell-requires-in-SetDay
add_cell-requires-in-SetDay c = c.requires (Stay c.in-SetDay.p)
    (sym (set_day-looks c.args.mv.now c.in-SetDay.p c.in-SetDay.field-1 c.in-SetDay.is (Stay c.in-SetDay.p)) ∙ same_cell-self (Stay c.in-SetDay.p))

pub returns-in-SetDay : goal.returns-in-SetDay
returns-in-SetDay c = gathers-like (λ e range. set_day-looks c.args.mv.now c.in-SetDay.p c.in-SetDay.field-1 c.in-SetDay.is e) c.add_cell-in-SetDay.ensures

pub add_cell-requires-in-SetRoom : goal.add_cell-requires-in-SetRoom
add_cell-requires-in-SetRoom c = c.requires (Stay c.in-SetRoom.p)
    (sym (set_room-looks c.args.mv.now c.in-SetRoom.p c.in-SetRoom.field-1 c.in-SetRoom.is (Stay c.in-SetRoom.p)) ∙ same_cell-self (Stay c.in-SetRoom.p))

pub returns-in-SetRoom : goal.returns-in-SetRoom
returns-in-SetRoom c = gathers-like (λ e range. set_room-looks c.args.mv.now c.in-SetRoom.p c.in-SetRoom.field-1 c.in-SetRoom.is e) c.add_cell-in-SetRoom.ensures

pub add_cell-requires-in-SetTheatre : goal.add_cell-requires-in-SetTheatre
add_cell-requires-in-SetTheatre c = c.requires (Stay c.in-SetTheatre.p)
    (sym (set_theatre-looks c.args.mv.now c.in-SetTheatre.p c.in-SetTheatre.field-1 c.in-SetTheatre.is (Stay c.in-SetTheatre.p))
    ∙ same_cell-self (Stay c.in-SetTheatre.p))

pub returns-in-SetTheatre : goal.returns-in-SetTheatre
returns-in-SetTheatre c = gathers-like (λ e range. set_theatre-looks c.args.mv.now c.in-SetTheatre.p c.in-SetTheatre.field-1 c.in-SetTheatre.is e) c.add_cell-in-SetTheatre.ensures

pub returns-in-Idle : goal.returns-in-Idle
returns-in-Idle c = gathers-none (idle-looks c.args.mv.now c.in-Idle.is)

pub returns-in-Place : goal.returns-in-Place
returns-in-Place c = gathers-none (place-looks c.args.mv.now c.in-Place.field-0 c.in-Place.field-1 c.in-Place.is)

pub returns-in-Nurse : goal.returns-in-Nurse
returns-in-Nurse c = gathers-none (nurse-looks c.args.mv.now c.in-Nurse.field-0 c.in-Nurse.field-1 c.in-Nurse.field-2 c.in-Nurse.is)

pub returns-in-NurseRun : goal.returns-in-NurseRun
returns-in-NurseRun c = gathers-none (nurse_run-looks c.args.mv.now c.in-NurseRun.field-0 c.in-NurseRun.field-1 c.in-NurseRun.field-2 c.in-NurseRun.field-3 c.in-NurseRun.is)
