use Rattle.std.proofs.Common.{◌<◌, sym, subst}
use Rattle.ih_roomdays.specs.declared.room_lists.RoomLists.{RoomLists}
use Rattle.ih_roomdays.specs.Ledger.{IsLedgerOf}
use Rattle.ih_roomdays.proofs.room_days.RoomDays.same_gender.Goals as goal

pub same_gender-requires : goal.same_gender-requires
same_gender-requires c = record {
  first = rw c.self.invariant.profiles.genders_len (subst (λ (w : RoomLists). c.args.person.0 < w.persons) (sym c.self.view_is) c.requires.first);
  second = rw c.self.invariant.profiles.genders_len (subst (λ (w : RoomLists). c.args.other.0 < w.persons) (sym c.self.view_is) c.requires.second);
}

pub returns : goal.returns
returns c = λ I P stands.
    let now = subst (λ (w : RoomLists). IsLedgerOf I P w) (sym c.self.view_is) stands in
    c.same_gender.ensures I now.profiles
