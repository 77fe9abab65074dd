use Rattle.std.proofs.Common.{◌∙◌, ◌^◌, refl, ap, sym, subst, Some}
use Rattle.ih_tables.specs.Bills.{sub_bills, IsWithin}
use Rattle.ih_costs.specs.CellLedgers.{timetable_of}
use Rattle.ih_costs.specs.StayDelta.{of_surgery, placement_delta, stay_delta}
use Rattle.ih_costs.proofs.ChangeSums.{less-within}
use Rattle.ih_costs.proofs.DeltaBills.{two-stays}
use Rattle.ih_costs.proofs.DeltaNumbers.{delta-within}
use Rattle.ih_costs.proofs.StandLemmas.{plan-fits}
use Rattle.ih_costs.proofs.TheatreDeltas.{deltas-apart}
use Rattle.ih_costs.proofs.cell_ledgers.CellLedgers.theatre_price.Goals as goal

pub surgery_delta-after-requires : goal.surgery_delta-after-requires
surgery_delta-after-requires c = record {
  stands = c.requires.stands;
  patient = c.requires.write.0;
  placement = c.requires.write.1 c.args.to refl;
  stay = c.requires.stay;
}

pub surgery_delta-before-requires : goal.surgery_delta-before-requires
surgery_delta-before-requires c =
    let plan = plan-fits c.args.inst.now.draft (timetable_of c.args.self.now) c.args.self.now c.requires.stands in
    record {
      stands = c.requires.stands;
      patient = c.requires.write.0;
      placement = plan.placed c.args.patient.0 c.args.from c.requires.stay;
      stay = c.requires.stay;
    }

pub sub-requires : goal.sub-requires
sub-requires c =
    let I = c.args.inst.now.draft in
    let P = timetable_of c.args.self.now in
    let p = c.args.patient in
    let valid = c.args.inst.now.valid in
    let plan = plan-fits I P c.args.self.now c.requires.stands in
    let known = c.requires.write.0 in
    let more = delta-within I P p c.args.to valid plan known (c.requires.write.1 c.args.to refl) in
    let less = delta-within I P p c.args.from valid plan known (plan.placed p.0 c.args.from c.requires.stay) in
    rw (c.surgery_delta-after.ensures, c.surgery_delta-before.ensures)
    (subst (IsWithin (10 ^ 12)) (deltas-apart I P p c.args.from c.args.to plan known c.requires.room c.requires.day) (less-within _ _ more less))

pub returns : goal.returns
returns c =
    let I = c.args.inst.now.draft in
    let P = timetable_of c.args.self.now in
    let p = c.args.patient in
    let plan = plan-fits I P c.args.self.now c.requires.stands in
    c.sub.ensures
    ∙ (ap (λ b. sub_bills b c.surgery_delta-before.result) c.surgery_delta-after.ensures
    ∙ (ap (sub_bills (of_surgery (placement_delta I P p c.args.to))) c.surgery_delta-before.ensures
    ∙ (sym (deltas-apart I P p c.args.from c.args.to plan c.requires.write.0 c.requires.room c.requires.day)
    ∙ (ap (λ s. sub_bills (placement_delta I P p c.args.to) (stay_delta I P p s)) (sym c.requires.stay)
    ∙ sym (two-stays I P p (Some c.args.to) c.args.inst.now.valid plan c.requires.write)))))
