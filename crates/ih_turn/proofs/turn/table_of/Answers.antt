use Rattle.std.proofs.Common.{◌≡◌, [], ◌∷◌, ◌++◌, Some, ap, ◌∙◌, sym, subst}
use Rattle.atomic_table.specs.Table.{opening}
use Rattle.ih_turn.specs.Rule.{IsTurn, first_view}
use Rattle.ih_turn.proofs.Ends.{opens}
use Rattle.ih_turn.proofs.turn.table_of.Goals as goal

pub new-requires : goal.new-requires
new-requires g c = let setup = c.args.setup.now in let value = setup.opening.value in let entries = g.B.Kept.entries in let base = g.B.Kept.base in let maker = g.B.Kept.maker in
    let slots : c.push.new.self.items ≡ Some value ∷ [] = c.in_default.ensures.items ∙ (ap (λ l. l ++ Some c.args.value ∷ []) c.new-slots.ensures.items ∙ ap (λ b. Some b ∷ []) (sym c.requires.0)) in
    subst (λ l. IsTurn entries base maker value setup.seats setup.turns (opening (0 ∷ 0 ∷ []) l (first_view entries base value setup.seats setup.turns)))
    (sym slots) (opens entries base maker value setup.seats setup.turns c.requires.1 c.requires.2)
