use Rattle.std.proofs.Common.{arith, ◌≡◌, ◌+◌, ◌-◌, sym, length, take, drop}
use Rattle.std.proofs.lemmas.Grind.{common_steps}
use Rattle.ih_top.proofs.FirstLines.{line_here, no_line}
use Rattle.ih_top.proofs.journal_lines.first_line.Goals as goal

pub returns-in-Some-clause-some : goal.returns-in-Some-clause-some
returns-in-Some-clause-some c =
    let whole : take (length c.args.bytes.now - (c.in-Some.i + 1)) (drop (c.in-Some.i + 1) c.args.bytes.now) ≡ drop (c.in-Some.i + 1) c.args.bytes.now = grind (arith, common_steps) in
    rw whole (line_here c.args.bytes.now c.in-Some.i (sym c.in-Some.ensures)).1

pub returns-in-None-clause-none : goal.returns-in-None-clause-none
returns-in-None-clause-none c = no_line c.args.bytes.now (sym c.in-None.ensures)
