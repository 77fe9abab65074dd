use Rattle.std.proofs.Common.{refl, subst, ◌<◌, ◌+◌}
use Rattle.std.specs.Prelude.{IfSome, slice_index_or}
use Rattle.ih_tables.specs.Sizes.{nurse_count}
use Rattle.ih_nurses.specs.declared.loads.NurseLoad.{NurseLoad}
use Rattle.ih_nurses.proofs.LoadSteps.{added}
use Rattle.ih_nurses.proofs.loads.add_load.Goals as goal

pub returns-in-Some-clause-each : goal.returns-in-Some-clause-each
returns-in-Some-clause-each c =
    let nurse = subst (λ n. IfSome n (λ a. a.0 < nurse_count c.args.inst.now.draft)) c.in-Some.is c.requires.nurse in
    let old : NurseLoad = slice_index_or c.args.loads.now c.place.result (record { work = 0; most = 0 }) in
    rw (c.in-Some.is)
    (added c.args.inst.now.draft c.args.loads.now c.in-Some.a c.args.shift.0 c.place.result old c.requires.table nurse c.requires.shift
    c.place.ensures.value refl c.args.load (record { work = old.work + c.args.load; most = old.most }) refl)
