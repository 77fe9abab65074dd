use Rattle.std.proofs.Common.{rules, arith}
use Rattle.ih_turn.proofs.Ends.{splits_at}
use Rattle.ih_turn.proofs.turn.Turn+B.split.Goals as goal

pub split_seat-other-requires : goal.split_seat-other-requires
split_seat-other-requires g c =
    let key = c.args.self.now.table.shared.key in
    let t = c.args.token.now in
    let rests = c.requires.rests.0 in
    let own = c.requires.own in
    let gives = c.requires.gives in
    let given = gives.0 in
    let each = gives.1 in
    let left = gives.2 in
    let below = own.2 in
    let above = own.3 in (
      search rules,
      search rules,
      splits_at g.B.Kept.entries g.B.Kept.base g.B.Kept.maker key.opening.value key.seats key.turns t.id t.me.0 own.1 rests.whole rests.ticket rests.turn (omega arith) (omega arith) (omega arith),
    )
