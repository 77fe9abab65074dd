use Rattle.std.proofs.Common.{refl, None}
use Rattle.ih_top.specs.Below.Searches.{Base, base_with}
use Rattle.ih_top.proofs.FormOutputs.{fits-end, output-of, output-unfrozen}
use Rattle.ih_top.proofs.rounds_output.make_rounds_output.Goals as goal

pub best_of_rounds-requires : goal.best_of_rounds-requires
best_of_rounds-requires g c =
    let given = c.args.given.now in
    let b : Base = base_with given.inst.now.draft given.start.now given.options 0 in
    let ends = c.in_ok-end.ensures in
    fits-end b ends.run.rounds c.in_ok-end.end ends.end_is

pub returns : goal.returns
returns g c =
    let given = c.args.given.now in
    let b : Base = base_with given.inst.now.draft given.start.now given.options 0 in
    output-unfrozen given.inst.now.draft given.start.now given.options given.freeze c.args.count _ c.requires.unfrozen
    (output-of c.accepted_prices_are_exact.ensures b c.args.count None None c.new-journal.result.items c.rounds_by.new.journal.items c.in_ok-end.end _
    (record { start = c.requires.base.start; lawful = c.requires.base.lawful }) c.seed_of-seed.ensures.small c.new-journal.ensures.items
    c.in_ok-end.ensures c.in_ok-best.ensures refl)
