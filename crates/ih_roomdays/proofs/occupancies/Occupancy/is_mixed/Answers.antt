use Rattle.std.proofs.Common.{◌∙◌, ◌*◌, ap}
use Rattle.std.specs.Prelude.{◌==◌, not}
use Rattle.ih_roomdays.proofs.Mixtures.{mixed-told}
use Rattle.ih_roomdays.proofs.occupancies.Occupancy.is_mixed.Goals as goal

pub returns : goal.returns
returns c = λ I p xs profiles known is.
    ap (λ n. not (c.args.self.count * c.args.self.squares == n)) c.square.ensures ∙ mixed-told I p xs profiles known c.args.self is
