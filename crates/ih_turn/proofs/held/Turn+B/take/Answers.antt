use Rattle.std.proofs.Common.{◌≡◌, ◌≤◌, ◌-◌, length, rules, refl, ap, ◌∙◌, sym, subst}
use Rattle.ih_turn.specs.Rule.{GoesOn, Serves, IsViewOf, made_by, queued, served}
use Rattle.ih_turn.proofs.Keeps.{queues}
use Rattle.ih_turn.proofs.Counts.{same_count}
use Rattle.ih_turn.proofs.held.Turn+B.take.Goals as goal

pub fetch_add-ticket-requires : goal.fetch_add-ticket-requires
fetch_add-ticket-requires g c = let key = c.args.self.now.table.shared.key in let s = c.args.seat in (
  search rules,
  search rules,
  queues g.B.Kept.entries g.B.Kept.base g.B.Kept.maker key.opening.value key.seats
      key.turns c.args.self.now.table.shared.table_id.slots s.token.id s.token.me s.rests.whole s.rests.ticket
      s.rests.turn (search rules),
)

pub invariant_of-holder : goal.invariant_of-holder
invariant_of-holder g c =
    let s = c.args.seat in
    let v = s.token.me.0 in
    let maker = g.B.Kept.maker in
    let opening = c.args.self.now.table.shared.key.opening.value in
    let xs = g.B.Kept.entries c.wait-value.result in
    let n = c.fetch_add-ticket.result in
    let e1 = c.fetch_add-ticket.ensures.2 in let e : c.wait-value.new.token.me.0 ≡ served (queued v n) xs = ap (λ m. m.0) c.wait-value.ensures.served ∙ ap (λ m. served m.0 xs) e1 in
    let begins : GoesOn maker v.number v.seen xs = subst (λ m. GoesOn maker m.0.number m.0.seen xs) e1 c.wait-value.ensures.begins in
    let long : v.start ≤ length xs = subst (λ m. m.0.start ≤ length xs) e1 c.wait-value.ensures.long in record {
      own = search rules;
      out = ap (λ m. m.1) c.wait-value.ensures.served;
      serves = subst (λ z. Serves z) (sym e) record { whole = s.rests.whole; ticket = refl; turn = refl; alone = s.rests.alone; long = long };
      is_of = subst (λ z. IsViewOf g.B.Kept.entries g.B.Kept.base opening z) (sym e) record { based = c.requires.own.1.based; started = c.requires.own.1.started };
      number_is = s.number_is ∙ ap (λ z. z.number) (sym e);
      seen_is = c.len-seen.ensures ∙ ap (λ z. length z.seen) (sym e);
      made_is = s.made_is ∙ sym (same_count maker v.number v.start xs v.seen s.rests.long begins) ∙ ap (λ z. made_by maker z) (sym e);
      left_is = ap (λ k. k - 1) s.left_is ∙ ap (λ z. z.left) (sym e);
    }
