use Rattle.std.proofs.Common.{◌≡◌, ◌∙◌, sym, subst, Some}
use mathlib.Core.Option as maybe
use Rattle.ih_turn.specs.Rule.{Closes}
use Rattle.ih_turn.proofs.Views.{some_same}
use Rattle.ih_turn.proofs.Ends.{closes}
use Rattle.ih_turn.proofs.closing.Turn+B.take_out.Goals as goal

pub unreachable-requires : goal.unreachable-requires
unreachable-requires g c = let key = c.args.self.table.shared.key in let closed = c.close_with-closed.result in
    let end = closes g.B.Kept.entries g.B.Kept.base g.B.Kept.maker key.opening.value key.seats key.turns
    c.args.token.id c.args.token.me.0 closed.words.items closed.slots.items c.requires.rests.0 c.requires.rests.1
    c.requires.all c.close_with-closed.ensures.values.2 in
    let is : c.take-slot.result ≡ Some end.0 = maybe.some-injective c.take-slot.result (Some end.0) (sym c.take-slot.ensures.value ∙ end.1) in c.in_default.not-Some end.0 is

pub returns : goal.returns
returns g c = let key = c.args.self.table.shared.key in let closed = c.close_with-closed.result in
    let end = closes g.B.Kept.entries g.B.Kept.base g.B.Kept.maker key.opening.value key.seats key.turns
    c.args.token.id c.args.token.me.0 closed.words.items closed.slots.items c.requires.rests.0 c.requires.rests.1
    c.requires.all c.close_with-closed.ensures.values.2 in
    let is : c.take-slot.result ≡ Some end.0 = maybe.some-injective c.take-slot.result (Some end.0) (sym c.take-slot.ensures.value ∙ end.1) in
    subst (λ b. Closes g.B.Kept.entries g.B.Kept.base g.B.Kept.maker key.opening.value key.seats c.args.token.me.0 b) (some_same end.0 c.in-Some.value (sym is ∙ c.in-Some.is)) end.3
