use Rattle.std.proofs.Common.{◌≡◌, ◌∙◌, ap, subst}
use Rattle.std.specs.Prelude.{option_map}
use Rattle.ih_tables.specs.declared.ids.NurseNo.{NurseNo}
use Rattle.ih_tables.specs.declared.cells.Cell.TheVariants.{RoomShift}
use Rattle.ih_links.specs.Lists.{list_of}
use Rattle.ih_plan.specs.Timetable.{Timetable}
use Rattle.ih_plan.specs.BillOf.{as_bill}
use Rattle.ih_plan.specs.Cells.{part_at}
use Rattle.ih_nurses.proofs.LedgerLemmas.{stands-own}
use Rattle.ih_nurses.proofs.RoomChangeLemmas.{AreChoiceCosts, choice-part}
use Rattle.ih_nurses.proofs.nurses.Nurses.room_shift_bill.Goals as goal

pub returns : goal.returns
returns c = record {
  part = λ P known.
      let own = stands-own known in
      let costs = subst (λ n. AreChoiceCosts c.args.inst.now.draft c.args.self.now.plan (list_of c.index-persons.result.now c.args.room.0) c.args.shift.0 n c.choice_costs.result)
      (ap (option_map (λ (a : NurseNo). a.0)) c.nurse_at-nurse.ensures.choice)
      (record {
        off = c.choice_costs.ensures.off;
        uncovered = c.choice_costs.ensures.uncovered;
        missing_skill = c.choice_costs.ensures.missing_skill ∙ c.room_sums-sums.ensures.new_missing;
        seen = c.choice_costs.ensures.seen;
        overload = c.choice_costs.ensures.overload;
      }) in
      subst (λ (S : Timetable). c.bill_of.result ≡ as_bill (part_at c.args.inst.now.draft S (RoomShift c.args.room c.args.shift))) known.plan_is
      (c.bill_of.ensures.value
      ∙ choice-part c.args.inst.now.draft c.args.self.now.plan c.args.self.now.here.items c.index-persons.result.now c.args.room c.args.shift c.choice_costs.result
      (record { known = own.here_are; room = c.requires.room; shift = c.requires.shift; day_is = c.index-persons.ensures; nodes = c.choice_costs.ensures.nodes }) costs);
  within = c.bill_of.ensures.within;
}
