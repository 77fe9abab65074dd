use Rattle.std.proofs.Common.{◌≡◌, ◌-◌, ◌+◌, ◌∷◌, length, rules, refl, ap, ◌∙◌, sym, subst, arith, Some}
use Rattle.atomic_table.specs.Table.{rest}
use Rattle.ih_turn.specs.Rule.{Rests, AddsAtMostOne, made_by, passed}
use Rattle.ih_turn.proofs.Keeps.{passes_at}
use Rattle.ih_turn.proofs.Counts.{more_count}
use Rattle.ih_turn.proofs.held.Held+B.give.Goals as goal

pub fetch_add-requires : goal.fetch_add-requires
fetch_add-requires g c = let h = c.args.self.holder in let key = h.turn.now.table.shared.key in let v = h.token.me.0 in let b = c.args.self.value in let maker = g.B.Kept.maker in
    let adds : AddsAtMostOne maker v.number v.seen (g.B.Kept.entries b) = subst (λ n. AddsAtMostOne maker n v.seen (g.B.Kept.entries b)) h.number_is c.requires.list in
    let more = more_count maker v.number v.start v.seen (g.B.Kept.entries b) h.serves.long adds in let long = h.serves.long in let longer = more.0 in
    let e = c.exchange-gone.ensures.3 ∙ ap (λ l. (v, (0, Some b) ∷ rest l)) h.out in (
      search rules,
      search rules,
      passes_at g.B.Kept.entries g.B.Kept.base maker key.opening.value key.seats key.turns
          h.turn.now.table.shared.table_id.slots c.exchange-gone.new.seat.id c.exchange-gone.new.seat.me v b e
          h.serves.turn h.serves.alone (omega arith)
          (h.is_of.based ∙ ap Some (sym c.requires.base)) adds,
    )

pub invariant_of-result : goal.invariant_of-result
invariant_of-result g c = let h = c.args.self.holder in let v = h.token.me.0 in let b = c.args.self.value in let maker = g.B.Kept.maker in let xs = g.B.Kept.entries b in
    let adds : AddsAtMostOne maker v.number v.seen xs = subst
    (λ n. AddsAtMostOne maker n v.seen xs) h.number_is c.requires.list in
    let more = more_count maker v.number v.start v.seen xs h.serves.long adds in
    let long = h.serves.long in
    let longer = more.0 in
    let e = c.exchange-gone.ensures.3 ∙ ap (λ l. (v, (0, Some b) ∷ rest l)) h.out in let gone = c.fetch_add.ensures.2 b (ap (λ m. m.1) e) in
    let w : c.fetch_add.new.seat.me.0
    ≡ passed v xs = ap (λ m. m.0) gone
    ∙ ap (λ m. passed m.0 xs) e in let seen = h.seen_is in let now = c.len-now.ensures in let made = h.made_is in let counted = more.1 in record {
      empty = ap (λ m. m.1) gone;
      rests = subst (λ z. Rests z) (sym w) record { whole = h.serves.whole; ticket = refl; turn = refl; alone = h.serves.alone; long = omega arith };
      number_is = h.number_is ∙ ap (λ z. z.number) (sym w);
      seen_is = now ∙ ap (λ z. length z.seen) (sym w);
      made_is = (let sum : h.made + (c.len-now.result - h.seen) ≡ made_by maker (passed v xs) = omega arith in sum ∙ ap (λ z. made_by maker z) (sym w));
      left_is = h.left_is ∙ ap (λ z. z.left) (sym w);
    }
