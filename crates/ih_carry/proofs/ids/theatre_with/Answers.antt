use Rattle.ih_tables.specs.declared.drafts.Theatre.{Theatre}
use Rattle.ih_tables.specs.declared.ids.TheatreNo.{TheatreNo}
use Rattle.ih_carry.proofs.Known.{found-inside}
use Rattle.ih_carry.proofs.ids.theatre_with.Goals as goal

pub returns-clause-inside : goal.returns-clause-inside
returns-clause-inside c =
    found-inside (λ (x : TheatreNo). x.0) (λ (a : Theatre). a.id) c.args.inst.now.draft.operating_theaters c.args.id.now c.find_theatre.result c.find_theatre.ensures
