use Rattle.std.proofs.Common.{sym, subst}
use Rattle.ih_roomdays.specs.Ledger.{IsLedgerOf}
use Rattle.ih_roomdays.specs.RoomLists.{IsLeft}
use Rattle.ih_roomdays.proofs.StayLemmas.{is-there, left-stands}
use Rattle.ih_roomdays.proofs.room_days.RoomDays.leave.Goals as goal

pub end_of-to-requires-clause-placement : goal.end_of-to-requires-clause-placement
end_of-to-requires-clause-placement c = c.requires.stands.1.plan.placed c.args.patient.0 c.args.at c.requires.stands.2

pub leave-requires-clause-there : goal.leave-requires-clause-there
leave-requires-clause-there c = λ r d late early.
    let I = c.args.inst.now.draft in
    let P = c.requires.stands.0 in
    let stands = subst (λ w. IsLedgerOf I P w) (sym c.self.view_is) c.requires.stands.1 in
    is-there I P c.self.inside.rows c.self.inside.rows c.args.patient c.args.at stands c.requires.patient c.requires.stands.2 r d late (rw c.end_of-to.ensures.value at early)

pub returns : goal.returns
returns c = λ P stands stay.
    let I = c.args.inst.now.draft in
    let now = subst (λ w. IsLedgerOf I P w) (sym c.self.view_is) stands in
    let gone = subst (λ to. IsLeft c.self.inside.rows c.leave.new.self c.args.patient.0 c.args.at.day.0 to) c.end_of-to.ensures.value c.leave.ensures in
    left-stands I P c.self.inside.rows c.leave.new.self c.args.patient c.args.at now c.requires.patient stay gone
