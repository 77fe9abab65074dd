use Rattle.std.proofs.Common.{refl, arith, subst, ◌≤◌, ◌<◌, ◌-◌}
use Rattle.std.specs.Prelude.{IfSome, slice_index_or}
use Rattle.ih_tables.specs.Sizes.{nurse_count}
use Rattle.ih_nurses.specs.declared.loads.NurseLoad.{NurseLoad}
use Rattle.ih_nurses.specs.Loads.{load_at, share}
use Rattle.ih_nurses.proofs.LoadSteps.{taken, read, share-here}
use Rattle.ih_nurses.proofs.loads.take_load.Goals as goal

pub returns-in-Some-clause-each : goal.returns-in-Some-clause-each
returns-in-Some-clause-each c =
    let I = c.args.inst.now.draft in
    let loads = c.args.loads.now in
    let nurse = subst (λ n. IfSome n (λ a. a.0 < nurse_count I)) c.in-Some.is c.requires.nurse in
    let enough = subst (λ n. share n c.args.shift.0 c.args.load c.in-Some.a.0 c.args.shift.0 ≤ load_at I loads c.in-Some.a.0 c.args.shift.0) c.in-Some.is (c.requires.enough c.in-Some.a.0 nurse) in
    let old : NurseLoad = slice_index_or loads c.place.result (record { work = 0; most = 0 }) in
    let whole = share-here I loads c.in-Some.a c.args.shift.0 c.place.result old c.requires.table nurse c.requires.shift c.place.ensures.value refl c.args.load in
    let there = read I loads c.in-Some.a c.args.shift.0 c.place.result old c.requires.table nurse c.requires.shift c.place.ensures.value refl in
    rw (c.in-Some.is)
    (taken I loads c.in-Some.a c.args.shift.0 c.place.result old c.requires.table nurse c.requires.shift
    c.place.ensures.value refl c.args.load (record { work = old.work - c.args.load; most = old.most }) (omega (arith, enough, whole, there)))
