use Rattle.std.proofs.Common.{◌≡◌, ◌∷◌, [], refl, sym, subst, List}
use Rattle.std.proofs.lemmas.List.{nil_from_length}
use Rattle.ih_plan.specs.declared.moves.Write.{Write}
use Rattle.ih_plan.specs.Footprint.{write_touches}
use Rattle.ih_roomdays.proofs.Standing.{tells}
use Rattle.ih_footprint.specs.CellsState.{Gathers}
use Rattle.ih_footprint.proofs.GatherLemmas.{gathers-both, gathers-none}
use Rattle.ih_costs.specs.CellLedgers.{timetable_of}
use Rattle.ih_costs.specs.AtOnce.{touch_at_once}
use Rattle.ih_costs.proofs.footprints.+gather_all.Goals as goal

pub gather-requires-clause-members : goal.gather-requires-clause-members
gather-requires-clause-members t c =
    let I = c.args.inst.now.draft in
    rw c.plan.ensures (tells I (timetable_of c.args.ledgers.now) c.args.ledgers.now.room_days c.requires.stands.room_days)

pub returns-in-None : goal.returns-in-None
returns-in-None t c =
    let I = c.args.inst.now.draft in
    let P = timetable_of c.args.ledgers.now in
    let v = c.args.cells.now in
    let none : c.args.writes.now ≡ [] = nil_from_length c.args.writes.now c.in-None.ensures.cases in
    subst (λ (ws : List Write). Gathers v v (touch_at_once I P ws)) (sym none) (gathers-none (λ e. refl))

pub returns-in-Some : goal.returns-in-Some
returns-in-Some t c =
    let I = c.args.inst.now.draft in
    let P = timetable_of c.args.ledgers.now in
    let w = c.in-Some.w.now in
    let u = c.args.cells.now in
    let one : Gathers u c.gather.new.out (write_touches I P w) =
    subst (λ Q. Gathers u c.gather.new.out (write_touches I Q w)) c.plan.ensures c.gather.ensures in
    let all : Gathers u c.gather_all.new.cells (touch_at_once I P (w ∷ c.in-Some.rest.now)) = gathers-both one c.gather_all.ensures in
    subst (λ (ws : List Write). Gathers u c.gather_all.new.cells (touch_at_once I P ws)) (sym c.in-Some.ensures.cases.0) all
