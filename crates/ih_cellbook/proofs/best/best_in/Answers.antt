use Rattle.std.proofs.Common.{arith, map}
use Rattle.std.proofs.lemmas.List.{length-map}
use Rattle.ih_cellbook.proofs.Scanning.{come-none, come-more, come-all, entry-there, first-in, next-in, sum-in}
use Rattle.ih_cellbook.proofs.best.best_in.Goals as goal

pub with_place-best-requires : goal.with_place-best-requires
with_place-best-requires g c =
    first-in c.requires.over.0 c.args.inst.now.draft c.args.first.now (map g.E.Logged.tried c.args.entries.now) c.requires.over.1 c.args.inst.now.valid

pub loop-entry-init : goal.loop-entry-init
loop-entry-init g c = record {
  place = omega arith;
  come = λ b over. come-none b c.args.inst.now.draft c.args.first.now (map g.E.Logged.tried c.args.entries.now) over c.with_place-best.result c.with_place-best.ensures;
}

pub add_price_of-requires : goal.add_price_of-requires
add_price_of-requires g c =
    let b = c.requires.over.0 in
    let over = c.requires.over.1 in
    let es = c.args.entries.now in
    let here = entry-there g.E.Logged.tried es c.loop-entry.entry-index c.entry-item.result c.loop-entry-test.true c.entry-item.is in
    sum-in b c.args.inst.now.draft c.args.first.now (map g.E.Logged.tried es) over c.loop-entry.entry-index (g.E.Logged.tried c.entry-item.result) here
    c.loop-entry.now c.loop-entry.best (c.loop-entry.invariant.come b over) c.args.inst.now.valid

pub with_place-best-requires-in-loop-entry : goal.with_place-best-requires-in-loop-entry
with_place-best-requires-in-loop-entry g c =
    let b = c.requires.over.0 in
    let over = c.requires.over.1 in
    let es = c.args.entries.now in
    let here = entry-there g.E.Logged.tried es c.loop-entry.entry-index c.entry-item.result c.loop-entry-test.true c.entry-item.is in
    next-in b c.args.inst.now.draft c.args.first.now (map g.E.Logged.tried es) over c.loop-entry.entry-index (g.E.Logged.tried c.entry-item.result) here
    c.loop-entry.now c.loop-entry.best (c.loop-entry.invariant.come b over) c.add_price_of.new.bill c.args.inst.now.valid c.add_price_of.ensures

pub loop-entry-preserved : goal.loop-entry-preserved
loop-entry-preserved g c = record {
  place = let here = c.loop-entry.invariant.place in omega arith;
  come = λ b over.
      let es = c.args.entries.now in
      let here = entry-there g.E.Logged.tried es c.loop-entry.entry-index c.entry-item.result c.loop-entry-test.true c.entry-item.is in
      come-more b c.args.inst.now.draft c.args.first.now (map g.E.Logged.tried es) over c.loop-entry.entry-index (g.E.Logged.tried c.entry-item.result) here
      c.loop-entry.now c.loop-entry.best (c.loop-entry.invariant.come b over) c.add_price_of.new.bill c.with_place-best-in-loop-entry.result c.add_price_of.ensures
      (rw c.loop-entry.invariant.place at c.with_place-best-in-loop-entry.ensures);
}

pub returns : goal.returns
returns g c b over =
    let past = c.loop-entry-test.false in
    let len = length-map c.args.entries.now g.E.Logged.tried in
    come-all b c.args.inst.now.draft c.args.first.now (map g.E.Logged.tried c.args.entries.now) over c.loop-entry.entry-index c.loop-entry.now c.loop-entry.best
    (omega (arith, past, len)) (c.loop-entry.invariant.come b over)
