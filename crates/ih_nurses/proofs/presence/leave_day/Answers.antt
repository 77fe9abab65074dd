use Rattle.std.proofs.Common.{arith, refl, slice_index_or}
use Rattle.ih_nurses.proofs.HereLemmas.{left}
use Rattle.ih_nurses.proofs.presence.leave_day.Goals as goal

pub returns-clause-each : goal.returns-clause-each
returns-clause-each c =
    let days = c.requires.sized.days in
    left c.args.here.now c.args.day c.index-here-day.result (slice_index_or c.args.here.now c.args.day c.index-here-day.result) c.remove.new.self (omega arith) refl c.args.person c.remove.ensures.lists
