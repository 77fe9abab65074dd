use Rattle.std.proofs.Common.{◌∷◌, subst}
use Rattle.ih_plan.specs.Writes.{AreWritesOf}
use Rattle.ih_plan.proofs.PlanRanges.{write-inside}
use Rattle.ih_snapshot.proofs.freezing.+any_frozen.Goals as goal

pub frozen-requires : goal.frozen-requires
frozen-requires t c =
    let I = c.args.inst.now.draft in
    let writes : AreWritesOf I (c.in-Some.w.now ∷ c.in-Some.rest.now) = subst (AreWritesOf I) c.in-Some.ensures.cases.0 c.requires.writes in
    write-inside I c.args.start.now c.in-Some.w.now c.requires.start writes.0
