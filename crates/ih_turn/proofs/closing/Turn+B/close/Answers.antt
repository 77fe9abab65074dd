use Rattle.std.proofs.Common.{◌≡◌, ◌∷◌, ◌++◌, [], length, map, ap, ◌∙◌, sym, subst}
use Rattle.std.specs.Prelude.{All}
use Rattle.std.proofs.lemmas.List.Elements.{All-same, All-map, All-contains, All-weaker}
use Rattle.ih_turn.specs.Seats.{IsSeatOf}
use Rattle.ih_turn.specs.Rule.{GoesOn, HasNumber, seen_lists, with_own}
use Rattle.ih_turn.proofs.Views.{all_close, have_close, all_without}
use Rattle.ih_turn.proofs.Counts.{made_at_end}
use Rattle.ih_turn.proofs.closing.Turn+B.close.Goals as goal

pub join_all-requires-clause-own : goal.join_all-requires-clause-own
join_all-requires-clause-own g c = let f = c.take_first-root.ensures in
    (all_without (IsSeatOf c.args.self) f.0 f.1 c.take_first-root.result (subst (All (IsSeatOf c.args.self)) f.2 c.requires.own)).1.0

pub join_all-requires-clause-others : goal.join_all-requires-clause-others
join_all-requires-clause-others g c = let f = c.take_first-root.ensures in let id = c.args.self.table.shared.table_id in
    let all = (all_without (IsSeatOf c.args.self) f.0 f.1 c.take_first-root.result (subst (All (IsSeatOf c.args.self)) f.2 c.requires.own)).0 in
    All-same (λ s. s.token.table_id ≡ id) c.take_first-root.new.seats.items (f.0 ++ f.1) f.3 (All-weaker (IsSeatOf c.args.self) (λ s. s.token.table_id ≡ id) (λ s h. h.0) (f.0 ++ f.1) all)

pub take_out-requires-clause-own : goal.take_out-requires-clause-own
take_out-requires-clause-own g c = let f = c.take_first-root.ensures in c.join_all.ensures.own.0
    ∙ (all_without (IsSeatOf c.args.self) f.0 f.1 c.take_first-root.result (subst (All (IsSeatOf c.args.self)) f.2 c.requires.own)).1.0

pub take_out-requires-clause-all : goal.take_out-requires-clause-all
take_out-requires-clause-all g c = let r = c.take_first-root.result in let f = c.take_first-root.ensures in let v = r.token.me.0 in let ts = seen_lists c.join_all.new.token.me.0 in
    let own = ap (with_own v.number v.seen) r.rests.alone ∙ ap (λ n. (n, v.seen) ∷ []) (sym r.number_is) in
    let is = c.join_all.ensures.seen_lists ∙ (ap (λ l. map (λ s. (s.number, s.token.me.0.seen)) l ++ seen_lists v) f.3 ∙ ap (λ l. map (λ s. (s.number, s.token.me.0.seen)) (f.0 ++ f.1) ++ l) own) in
    let have = have_close (λ s. s.number) (λ s. s.token.me.0.seen) f.0 f.1 r ts is in
    λ n below. All-contains (HasNumber ts) (map (λ s. s.number) c.args.seats.items) n
    (All-map (HasNumber ts) (λ s. s.number) c.args.seats.items (All-same (λ s. HasNumber ts s.number) c.args.seats.items (f.0 ++ r ∷ f.1) f.2 have))
    (c.requires.all n below)

pub returns-clause-seen : goal.returns-clause-seen
returns-clause-seen g c =
    let r = c.take_first-root.result in
    let f = c.take_first-root.ensures in
    let v = r.token.me.0 in
    let ts = seen_lists c.join_all.new.token.me.0 in
    let xs = g.B.Kept.entries c.take_out.result in
    let maker = g.B.Kept.maker in
    let own = ap (with_own v.number v.seen) r.rests.alone ∙ ap (λ n. (n, v.seen) ∷ []) (sym r.number_is) in
    let is = c.join_all.ensures.seen_lists ∙ (ap (λ l. map (λ s. (s.number, s.token.me.0.seen)) l ++ seen_lists v) f.3 ∙ ap (λ l. map (λ s. (s.number, s.token.me.0.seen)) (f.0 ++ f.1) ++ l) own) in
    All-same (λ s. GoesOn maker s.number s.token.me.0.seen xs) c.args.seats.items (f.0 ++ r ∷ f.1) f.2
    (all_close (λ s. s.number) (λ s. s.token.me.0.seen) f.0 f.1 r ts is (λ t. GoesOn maker t.0 t.1 xs) c.take_out.ensures.marked)

pub returns-clause-made : goal.returns-clause-made
returns-clause-made g c = made_at_end g.B.Kept.maker (λ s. s.number) (λ s. s.token.me.0) (length (g.B.Kept.entries c.args.self.table.shared.key.opening.value))
    (g.B.Kept.entries c.take_out.result) c.args.seats.items (λ s. (s.number_is, s.rests.long))
    (All-weaker (IsSeatOf c.args.self) (λ s. s.token.me.0.start ≡ length (g.B.Kept.entries c.args.self.table.shared.key.opening.value))
    (λ s h. h.1.started) c.args.seats.items c.requires.own) (returns-clause-seen g c)
