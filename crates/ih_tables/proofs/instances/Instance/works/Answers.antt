use Rattle.ih_tables.proofs.LoadLemmas.{load_place, load_found}
use Rattle.ih_tables.proofs.instances.Instance.works.Goals as goal

pub bounds-as_slice-nurse : goal.bounds-as_slice-nurse
bounds-as_slice-nurse c =
    let inst = c.args.self.now in
    rw (c.as_slice.ensures, c.shifts.ensures) (load_place inst.draft inst.loads c.args.nurse.0 c.args.shift.0 inst.loads_listed c.requires.nurse c.requires.shift)

pub returns : goal.returns
returns c =
    let inst = c.args.self.now in
    rw (c.as_slice.ensures, c.shifts.ensures) (load_found inst.draft inst.loads c.args.nurse.0 c.args.shift.0 _ inst.loads_listed c.requires.nurse c.requires.shift)
