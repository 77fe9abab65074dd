use Rattle.std.proofs.Common.{arith, ◌≡◌, ◌+◌, ◌-◌, sym, length, take, drop}
use Rattle.std.proofs.lemmas.Grind.{common_steps}
use Rattle.ih_journal.proofs.Separators.{parted_here, parted_whole}
use Rattle.ih_journal.proofs.numerals.cut.Goals as goal

pub returns-in-Some : goal.returns-in-Some
returns-in-Some c =
    let whole : take (length c.args.bytes.now - (c.in-Some.i + 1)) (drop (c.in-Some.i + 1) c.args.bytes.now) ≡ drop (c.in-Some.i + 1) c.args.bytes.now = grind (arith, common_steps) in
    rw whole (parted_here c.args.separator c.args.bytes.now c.in-Some.i (sym c.in-Some.ensures))

pub returns-in-None : goal.returns-in-None
returns-in-None c = parted_whole c.args.separator c.args.bytes.now (sym c.in-None.ensures)
