use Rattle.std.proofs.Common.{◌-◌, arith}
use Rattle.std.proofs.lemmas.Nat.{mul-le}
use Rattle.ih_tables.specs.Valid.{IsPatient}
use Rattle.ih_plan.proofs.Overtime.{from-all}
use Rattle.ih_plan.proofs.Whereabouts.{stay-length}
use Rattle.ih_bound.specs.Tariffs.{tariff_of}
use Rattle.ih_bound.proofs.LeastPaid.{paid-admitted, theatre-long_enough, surgeon-long_enough}
use Rattle.ih_bound.proofs.people.base_cost.Goals as goal

pub returns : goal.returns
returns c = λ P at feasible is on.
    let I = c.args.inst.now.draft in
    let p = c.args.patient.0 in
    let q = c.patient-q.result.now in
    let e = c.patient-q.ensures in
    let t = tariff_of I c.args.rates.now c.args.prices.now in
    let known = (from-all (IsPatient I) I.patients p q c.args.inst.now.valid.each_patient e).surgeon in
    let all = rw (on, stay-length I p q e) at (paid-admitted I c.args.rates.now t P p q at c.requires.patient e is) in
    let surgery = c.surgery_cost-surgery.ensures c.args.rates.now at.theatre.0 (feasible.plan.placed p at is).theatre
    (rw on at (theatre-long_enough I P feasible p q at c.requires.patient e is)) (rw on at (surgeon-long_enough I P feasible p q at c.requires.patient e is known)) in
    let wait = mul-le c.args.rates.now.delay c.saturating_sub.result c.args.rates.now.delay (c.args.day - q.surgery_release_day) (omega arith) (omega (arith, c.saturating_sub.ensures)) in
    omega (arith, all, surgery, wait, c.saturating_mul-wait.ensures, c.bed_cost-beds.ensures, c.saturating_add.ensures, c.saturating_add-2.ensures)
