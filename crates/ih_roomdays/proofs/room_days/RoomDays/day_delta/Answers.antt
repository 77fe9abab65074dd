use Rattle.std.proofs.Common.{◌∙◌, sym, subst}
use Rattle.ih_roomdays.specs.Ledger.{IsLedgerOf}
use Rattle.ih_roomdays.proofs.OtherPersons.{was-at}
use Rattle.ih_roomdays.proofs.DeltaLemmas.{delta-is}
use Rattle.ih_roomdays.proofs.room_days.RoomDays.day_delta.Goals as goal

pub without_and_with-requires-clause-was : goal.without_and_with-requires-clause-was
without_and_with-requires-clause-was c =
    let I = c.args.inst.now.draft in
    let P = c.requires.stands.0 in
    let stands = subst (λ w. IsLedgerOf I P w) (sym c.self.view_is) c.requires.stands.1 in
    was-at I P c.self.inside.rows stands c.args.patient c.requires.patient c.args.at.room c.args.day c.requires.day c.args.old c.is_there-was.result c.requires.stands.2 c.is_there-was.ensures

pub returns-clause-delta : goal.returns-clause-delta
returns-clause-delta c = λ P stands stay.
    let I = c.args.inst.now.draft in
    let now = subst (λ w. IsLedgerOf I P w) (sym c.self.view_is) stands in
    c.room_day_change.ensures.value
    ∙ delta-is I P c.self.inside.rows now c.args.patient c.requires.patient c.args.at c.args.day c.requires.day c.requires.counted _ _ c.without_and_with.ensures.without c.without_and_with.ensures.with
