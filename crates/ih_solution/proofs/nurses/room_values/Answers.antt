use Rattle.std.proofs.Common.{◌≡◌, arith}
use Rattle.serde_json.specs.Data.{string}
use Rattle.ih_tables.specs.Sizes.{room_count}
use Rattle.ih_solution.specs.Solution.{room_id, rooms_of}
use Rattle.ih_solution.proofs.ListedValues.{empty-views}
use Rattle.ih_solution.proofs.nurses.room_values.Goals as goal

pub returns-clause-none : goal.returns-clause-none
unfolding rooms_of
returns-clause-none c =
    let all : c.loop-r.r ≡ room_count c.args.inst.now.draft = omega arith in
    empty-views (λ r. string (room_id c.args.inst.now.draft r)) _ c.loop-r.values.items _ (omega arith) (rw all at c.loop-r.invariant)
