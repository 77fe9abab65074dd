use Rattle.std.proofs.Common.{◌≡◌, ◌<◌, ◌≤◌, ◌+◌, ◌-◌, arith, of_z, rules, subst, to_z, w64}
use Rattle.std.specs.Prelude.{◌+ℤ◌, FitsSigned, IfSome, option_map}
use Rattle.std.proofs.lemmas.Int.{to_z-of_z}
use Rattle.ih_tables.specs.declared.ids.NurseNo.{NurseNo}
use Rattle.ih_tables.specs.Sizes.{nurse_count}
use Rattle.ih_plan.specs.Timetable.{Timetable, care_of}
use Rattle.ih_nurses.specs.Choice.{excess_of, increase_by_choice}
use Rattle.ih_nurses.specs.Loads.{load_at}
use Rattle.ih_nurses.proofs.ChoiceLemmas.{load-there, loads-told}
use Rattle.ih_nurses.proofs.LedgerLemmas.{stands-own, loads-small, all-some}
use Rattle.ih_nurses.proofs.nurses.Nurses.loads_change.Goals as goal

pub excess_change-gone-requires-clause-enough : goal.excess_change-gone-requires-clause-enough
excess_change-gone-requires-clause-enough c =
    let I = c.args.inst.now.draft in
    let plan = c.args.self.now.plan in
    let own = stands-own c.requires.stands.1 in
    rw c.as_slice-loads.ensures.value
    (load-there I plan c.args.room c.args.shift c.args.new own.fits c.requires.room c.requires.shift (c.requires.other plan own)
    c.args.self.now.loads.items c.args.old c.args.work own.loads_are c.requires.old c.requires.old_nurse c.requires.work)

pub excess_change-gone-requires-clause-fits : goal.excess_change-gone-requires-clause-fits
excess_change-gone-requires-clause-fits c =
    let I = c.args.inst.now.draft in
    rw c.as_slice-loads.ensures.value
    (all-some (λ (a : NurseNo). load_at I c.args.self.now.loads.items a.0 c.args.shift.0 - c.args.work + 0 < 4294967296) c.args.old
    (λ a is.
    let nurse = subst (λ o. IfSome o (λ (a : NurseNo). a.0 < nurse_count I)) is c.requires.old_nurse in
    omega (arith, loads-small c.requires.stands.1 c.args.inst.now.valid a.0 c.args.shift.0 nurse c.requires.shift)))

pub excess_change-come-requires-clause-enough : goal.excess_change-come-requires-clause-enough
excess_change-come-requires-clause-enough c =
    rw c.as_slice-loads.ensures.value
    (all-some (λ (a : NurseNo). 0 ≤ load_at c.args.inst.now.draft c.args.self.now.loads.items a.0 c.args.shift.0) c.args.new (λ a is. omega arith))

pub excess_change-come-requires-clause-fits : goal.excess_change-come-requires-clause-fits
excess_change-come-requires-clause-fits c =
    let I = c.args.inst.now.draft in
    rw c.as_slice-loads.ensures.value
    (all-some (λ (a : NurseNo). load_at I c.args.self.now.loads.items a.0 c.args.shift.0 - 0 + c.args.work < 4294967296) c.args.new
    (λ a is.
    let small = loads-small c.requires.stands.1 c.args.inst.now.valid a.0 c.args.shift.0 (c.requires.nurse a is) c.requires.shift in
    omega (arith, small, c.requires.bound)))

pub returns : goal.returns
returns c = λ P known.
    let I = c.args.inst.now.draft in
    let plan = c.args.self.now.plan in
    let own = stands-own known in
    let nurse = all-some (λ (a : NurseNo). a.0 < nurse_count I) c.args.new c.requires.nurse in
    let old_nurse = subst (λ o. IfSome o (λ (a : NurseNo). a.0 < nurse_count I)) c.requires.old c.requires.old_nurse in
    let told : c.excess_change-gone.result +ℤ c.excess_change-come.result ≡ increase_by_choice plan c.args.room c.args.shift c.args.new
    (λ Q. excess_of I Q c.args.shift.0 (care_of plan c.args.room.0 c.args.shift.0) + excess_of I Q c.args.shift.0 (option_map (λ (a : NurseNo). a.0) c.args.new)) =
    rw (c.excess_change-gone.ensures.increase, c.excess_change-come.ensures.increase, c.as_slice-loads.ensures.value, c.requires.old)
    (loads-told I plan c.args.room c.args.shift c.args.new c.args.self.now.loads.items c.args.work own.fits c.requires.room c.requires.shift
    (c.requires.other plan own) own.loads_are c.requires.work old_nurse nurse) in
    let fits_without : FitsSigned w64 c.excess_change-gone.result = search rules in
    let fits_with : FitsSigned w64 c.excess_change-come.result = search rules in
    let fits : FitsSigned w64 (c.excess_change-gone.result +ℤ c.excess_change-come.result) = search rules in
    subst (λ (S : Timetable). to_z w64 (of_z w64 (to_z w64 (of_z w64 c.excess_change-gone.result) +ℤ to_z w64 (of_z w64 c.excess_change-come.result)))
    ≡ increase_by_choice S c.args.room c.args.shift c.args.new
    (λ Q. excess_of I Q c.args.shift.0 (care_of S c.args.room.0 c.args.shift.0) + excess_of I Q c.args.shift.0
    (option_map (λ (a : NurseNo). a.0) c.args.new))) known.plan_is
    (rw (to_z-of_z w64 _ fits_without, to_z-of_z w64 _ fits_with, to_z-of_z w64 _ fits) told)
