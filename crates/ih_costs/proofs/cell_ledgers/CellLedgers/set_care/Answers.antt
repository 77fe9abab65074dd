use Rattle.ih_costs.specs.CellLedgers.{timetable_of}
use Rattle.ih_costs.proofs.StandLemmas.{room_days-care, theatres-care}
use Rattle.ih_costs.proofs.cell_ledgers.CellLedgers.set_care.Goals as goal

pub returns : goal.returns
returns c =
    let I = c.args.inst.now.draft in
    let P = timetable_of c.args.self.now in
    let stands = c.requires.stands in
    record {
      room_days = room_days-care I P c.args.self.now.room_days c.args.room c.args.shift c.args.nurse c.requires.write stands.room_days;
      theatres = theatres-care I P c.args.self.now.theatres c.args.room c.args.shift c.args.nurse c.requires.write stands.theatres;
      nurses = c.set_care.ensures P stands.nurses;
    }
