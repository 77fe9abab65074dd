use Rattle.std.proofs.Common.{◌≤◌}
use Rattle.ih_changes.specs.Changes.{changes}
use Rattle.ih_changes.proofs.ChangeLemmas.{changes-few}
use Rattle.ih_changes.proofs.counts.count_changes.Goals as goal

pub returns-clause-few : goal.returns-clause-few
returns-clause-few c =
    let few : changes c.args.inst.now.draft c.args.older.now c.args.plan.now ≤ 23552 =
    changes-few c.args.inst.now.draft c.args.older.now c.args.plan.now c.args.inst.now.valid in
    rw (c.changed_stays.ensures, c.changed_cares.ensures) few
