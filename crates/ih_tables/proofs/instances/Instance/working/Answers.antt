use Rattle.std.proofs.Common.{◌∙◌}
use Rattle.ih_tables.proofs.RosterLemmas.{roster_inside, roster_found}
use Rattle.ih_tables.proofs.instances.Instance.working.Goals as goal

pub bounds-as_slice-shift : goal.bounds-as_slice-shift
bounds-as_slice-shift c =
    let inst = c.args.self.now in
    rw c.as_slice.ensures (roster_inside inst.draft inst.rosters c.args.shift.0 inst.working_listed c.requires)

pub returns : goal.returns
returns c =
    let inst = c.args.self.now in
    c.as_slice-2.ensures ∙ c.index-as_slice-shift.is
    ∙ rw c.as_slice.ensures (roster_found inst.draft inst.rosters c.args.shift.0 _ inst.working_listed c.requires)
