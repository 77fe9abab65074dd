use Rattle.std.proofs.Common.{rules, ap, ◌∙◌}
use Rattle.atomic_table.specs.Table.{step}
use mathlib.Core.Option.{none}
use Rattle.ih_turn.proofs.Keeps.{looks, looked, in_hand_at}
use Rattle.ih_turn.proofs.held.Turn+B.wait.Goals as goal

pub load-serving-requires : goal.load-serving-requires
load-serving-requires g c = let same = c.loop.invariant.1 in (
  search rules,
  search rules,
  looks g.B.Kept.entries g.B.Kept.base g.B.Kept.maker c.args.self.now.table.shared.key.opening.value
      c.args.self.now.table.shared.key.seats c.args.self.now.table.shared.key.turns
      c.args.self.now.table.shared.table_id.slots c.loop.token.id c.loop.token.me
      (ap (λ m. m.0.spent) same ∙ c.requires.waits.0) (ap (λ m. m.0.waits) same ∙ c.requires.waits.1) (ap (λ m. m.0.has_turn) same ∙ c.requires.waits.2),
)

pub exchange-requires : goal.exchange-requires
exchange-requires g c = let key = c.args.self.now.table.shared.key in
    let got = looked g.B.Kept.entries g.B.Kept.base g.B.Kept.maker key.opening.value key.seats key.turns
    (step c.args.self.now.table.shared.table_id.slots 1 0 0 none) c.loop.token.me c.args.token.now.me
    c.load-serving.result c.args.ticket c.load-serving.new.seat.me c.loop.invariant.1 c.load-serving.ensures.2
    c.if-serving-ticket.true c.requires.waits.3 c.requires.waits.4 in
    (search rules, in_hand_at g.B.Kept.entries g.B.Kept.base g.B.Kept.maker key.opening.value key.seats key.turns _ c.load-serving.new.seat.me got.0 got.1.0)
