use Rattle.std.proofs.Common.{◌∙◌, Some}
use Rattle.ih_plan.specs.declared.moves.Write.{Write}
use Rattle.ih_plan.specs.declared.moves.Write.TheVariants.{SetCare}
use Rattle.ih_fill.proofs.CandidateLemmas.{care-fits}
use Rattle.ih_fill.proofs.ValueLemmas.{care-is}
use Rattle.ih_fill.proofs.scoring.Scorer.care.Goals as goal

pub valued-requires : goal.valued-requires
valued-requires c = let I = c.args.self.now.instance in care-fits I c.args.room c.args.shift c.args.nurse c.requires.room c.requires.shift c.requires.nurse

pub returns : goal.returns
returns c =
    let F = c.args.self.now in
    let w : Write = SetCare c.args.room c.args.shift (Some c.args.nurse) in
    c.valued.ensures ∙ care-is F w
