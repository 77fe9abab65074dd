use Rattle.std.proofs.Common.{◌∙◌, sym, subst}
use Rattle.ih_roomdays.specs.Ledger.{IsLedgerOf}
use Rattle.ih_roomdays.specs.RoomLists.{IsEntered}
use Rattle.ih_plan.proofs.Whereabouts.{nowhere}
use Rattle.ih_roomdays.proofs.StayLemmas.{entered-stands}
use Rattle.ih_roomdays.proofs.room_days.RoomDays.enter.Goals as goal

pub enter-requires-clause-nowhere : goal.enter-requires-clause-nowhere
enter-requires-clause-nowhere c = λ r d below.
    let I = c.args.inst.now.draft in
    let P = c.requires.stands.0 in
    let stands = subst (λ w. IsLedgerOf I P w) (sym c.self.view_is) c.requires.stands.1 in
    stands.each r d c.args.patient.0 (rw (← stands.days) below) ∙ nowhere I P c.args.patient.0 r d c.requires.patient c.requires.stands.2

pub returns : goal.returns
returns c = λ P stands none.
    let I = c.args.inst.now.draft in
    let now = subst (λ w. IsLedgerOf I P w) (sym c.self.view_is) stands in
    let entered = subst (λ to. IsEntered c.self.inside.rows c.enter.new.self c.args.at.room.0 c.args.patient.0 c.args.at.day.0 to) c.end_of-to.ensures.value c.enter.ensures in
    entered-stands I P c.self.inside.rows c.enter.new.self c.args.patient c.args.at now c.requires.patient none c.requires.placement entered
