use Rattle.std.proofs.Common.{◌≡◌, ◌∷◌, ◌++◌, map, rules, ap, ◌∙◌, sym, Some}
use Rattle.std.proofs.lemmas.List.Elements.{All-pop}
use Rattle.ih_turn.specs.Rule.{seen_lists}
use Rattle.ih_turn.proofs.Views.{map_more}
use Rattle.ih_turn.proofs.Ends.{joins}
use Rattle.ih_turn.proofs.closing.Turn+B.join_all.Goals as goal

pub join_seat-requires : goal.join_seat-requires
join_seat-requires g c = let key = c.args.self.now.table.shared.key in let t = c.loop-other.token in let o = c.in-Some.other in let inv = c.loop-other.invariant in
    let all = All-pop (λ s. s.token.table_id ≡ c.args.self.now.table.shared.table_id) c.loop-other.seats.items c.pop.new.self.items (Some o) c.in-Some.ensures.items inv.6 in (
      search rules,
      all.1,
      search rules,
      search rules,
      joins g.B.Kept.entries g.B.Kept.base g.B.Kept.maker key.opening.value key.seats key.turns t.id o.token.id t.me.0
          o.token.me.0 inv.2 inv.3 inv.4 o.rests.whole o.rests.ticket o.rests.turn o.rests.alone,
    )

pub loop-other-preserved : goal.loop-other-preserved
loop-other-preserved g c = let t = c.loop-other.token in let o = c.in-Some.other in let inv = c.loop-other.invariant in let u = o.token.me.0 in let e = ap (λ m. m.0) c.join_seat.ensures.2 in
    let all = All-pop (λ s. s.token.table_id ≡ c.args.self.now.table.shared.table_id) c.loop-other.seats.items c.pop.new.self.items (Some o) c.in-Some.ensures.items inv.6 in (
      search rules,
      ap (λ m. m.1) c.join_seat.ensures.2 ∙ inv.1,
      ap (λ z. z.spent) e ∙ inv.2,
      ap (λ z. z.waits) e ∙ inv.3,
      ap (λ z. z.has_turn) e ∙ inv.4,
      map_more (λ s. (s.number, s.token.me.0.seen)) c.loop-other.seats.items c.pop.new.self.items o (seen_lists t.me.0) _ inv.5 c.in-Some.ensures.items
          ∙ ap (λ l. map (λ s. (s.number, s.token.me.0.seen)) c.pop.new.self.items ++ l) (ap (λ n. (n, u.seen) ∷ seen_lists t.me.0) o.number_is ∙ sym (ap (λ z. seen_lists z) e)),
      all.0,
    )
