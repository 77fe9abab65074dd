use Rattle.std.proofs.Common.{arith, refl, ◌<◌, length, slice_index_or}
use Rattle.ih_links.specs.Lists.{LinksState}
use Rattle.ih_nurses.proofs.HereLemmas.{free-lists, entered, read-here}
use Rattle.ih_nurses.proofs.presence.enter_day.Goals as goal

pub push_back-requires-clause-free : goal.push_back-requires-clause-free
push_back-requires-clause-free c =
    let days = c.requires.sized.days in
    free-lists c.args.here.now c.args.day c.index-here-day.result (slice_index_or c.args.here.now c.args.day c.index-here-day.result) c.index-here-day.result (omega arith) refl
    c.args.inst.now.draft c.args.person c.requires.sized c.requires.day c.requires.free

pub returns-clause-each : goal.returns-clause-each
returns-clause-each c =
    let days = c.requires.sized.days in
    let old : LinksState = slice_index_or c.args.here.now c.args.day c.index-here-day.result in
    let inside : c.args.day < length c.args.here.now = omega arith in
    let rooms = c.requires.sized.rooms c.args.day c.requires.day in
    let room : c.args.room.0 < length old.lists = rw (← read-here c.args.here.now c.args.day c.index-here-day.result old old inside refl, rooms) c.requires.room in
    entered c.args.here.now c.args.day c.index-here-day.result old c.push_back.new.self inside refl c.args.room.0 c.args.person room c.push_back.ensures.lists
