use Rattle.std.proofs.Common.{◌∙◌, arith, ap, sym, subst, length}
use Rattle.std.specs.Prelude.{All}
use Rattle.ih_cellbook.specs.Legal.{AreLegalButDraws}
use Rattle.ih_desk.specs.Searching.{base_given}
use Rattle.ih_desk.specs.Workers.{MayWork}
use Rattle.ih_desk.proofs.SeatLemmas.{all-ready, as-many-after, all-back, each-back, full-back}
use Rattle.ih_desk.proofs.whole_search.search_at_desk.Goals as goal

pub run_all-requires-after_bounds : goal.run_all-requires-after_bounds
run_all-requires-after_bounds g c κs within =
    let ready = all-ready (base_given c.args.given.now) c.args.each c.in_ok-desk.desk c.in_ok-desk.seats.items c.in_ok-desk.ensures c.in_ok-workers.workers.items c.in_ok-workers.ensures in
    subst (All (MayWork c.in_ok-desk.desk)) (sym c.as_mut_slice.ensures.value) ready

pub take_seats-requires : goal.take_seats-requires
take_seats-requires g c =
    let many = as-many-after
    (base_given c.args.given.now) c.args.each c.in_ok-desk.desk c.in_ok-desk.seats.items c.in_ok-desk.ensures c.in_ok-workers.workers.items c.in_ok-workers.ensures
    c.in_ok-workers.workers.len _ c.run_all.new.workers c.as_mut_slice.ensures.value c.in_ok-workers.workers.ok.0 c.run_all.auto.workers c.run_all.ensures in
    let none = ap length c.in_ok-back.ensures.items in
    let room = c.in_ok-back.ensures.capacity in
    omega (arith, many, none, room)

pub close-requires-clause-own : goal.close-requires-clause-own
close-requires-clause-own g c =
    all-back (base_given c.args.given.now) c.args.each c.in_ok-desk.desk c.in_ok-desk.seats.items c.in_ok-desk.ensures c.in_ok-workers.workers.items c.in_ok-workers.ensures
    c.in_ok-workers.workers.len _ c.run_all.new.workers c.as_mut_slice.ensures.value c.in_ok-workers.workers.ok.0 c.run_all.auto.workers c.run_all.ensures
    _ c.take_seats.new.seats.items c.in_ok-back.ensures.items c.take_seats.ensures.left

pub close-requires-clause-all : goal.close-requires-clause-all
close-requires-clause-all g c =
    each-back (base_given c.args.given.now) c.args.each c.in_ok-desk.desk c.in_ok-desk.seats.items c.in_ok-desk.ensures c.in_ok-workers.workers.items c.in_ok-workers.ensures
    c.in_ok-workers.workers.len _ c.run_all.new.workers c.as_mut_slice.ensures.value c.in_ok-workers.workers.ok.0 c.run_all.auto.workers c.run_all.ensures
    _ c.take_seats.new.seats.items c.in_ok-back.ensures.items c.take_seats.ensures.left

pub returns-clause-full : goal.returns-clause-full
returns-clause-full g c =
    let base = c.close.ensures.base ∙ c.in_ok-desk.ensures.base in
    full-back (base_given c.args.given.now) c.args.each c.in_ok-desk.desk c.in_ok-desk.seats.items c.in_ok-desk.ensures c.in_ok-workers.workers.items c.in_ok-workers.ensures
    c.in_ok-workers.workers.len _ c.run_all.new.workers c.as_mut_slice.ensures.value c.in_ok-workers.workers.ok.0 c.run_all.auto.workers c.run_all.ensures
    _ c.take_seats.new.seats.items c.in_ok-back.ensures.items c.take_seats.ensures.left
    c.finished_searches_are_full.ensures c.close.result.entries (subst (λ d. AreLegalButDraws d c.close.result.entries) base c.close.ensures.legal) c.close.ensures.seen
