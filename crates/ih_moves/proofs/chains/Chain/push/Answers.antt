use Rattle.std.proofs.Common.{arith, ap, length}
use Rattle.std.proofs.lemmas.List.{length-take-le}
use Rattle.ih_moves.proofs.Padding.{padded-push}
use Rattle.ih_moves.proofs.chains.Chain.push.Goals as goal

pub invariant_of-self : goal.invariant_of-self
invariant_of-self c =
    let same = ap length c.self.view_is in
    let less = c.requires in
    let room = c.self.invariant.room in
    let most = c.self.invariant.short in
    let len = length-take-le c.self.inside.len c.self.inside.moves (omega (arith, room, most)) in
    padded-push c.self.inside c.args.mv c.self.invariant (omega (arith, same, less, len))
