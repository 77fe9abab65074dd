use Rattle.std.proofs.Common.{arith, ap, length}
use Rattle.std.proofs.lemmas.Bool.{leb-false, leb-true}
use Rattle.std.proofs.lemmas.List.{length-map}
use Rattle.ih_journal.specs.Tried.{tried}
use Rattle.ih_replay.proofs.taking.may_have_seen.Goals as goal

pub returns-then-entry-worker-clause-no : goal.returns-then-entry-worker-clause-no
returns-then-entry-worker-clause-no c off may =
    let most = (c.requires.own_end c.args.entry.now.seen).1 may.1 in
    let less = c.if-entry-worker.true in
    omega (arith, most, less)

pub returns-clause-yes : goal.returns-clause-yes
returns-clause-yes c on =
    let len = ap length c.entries.ensures.entries in
    let many = length-map c.entries.result.now tried in
    let most = leb-true c.args.entry.now.seen (length c.entries.result.now) on in
    let some = c.if-entry-worker.false in
    (omega (arith, len, many, most), (c.requires.own_end c.args.entry.now.seen).0 (omega (arith, some)))

pub returns-clause-no : goal.returns-clause-no
returns-clause-no c off may =
    let len = ap length c.entries.ensures.entries in
    let many = length-map c.entries.result.now tried in
    let less = leb-false c.args.entry.now.seen (length c.entries.result.now) off in
    let most = may.0 in
    omega (arith, len, many, less, most)
