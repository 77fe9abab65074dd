use Rattle.std.proofs.Common.{◌∙◌, None}
use Rattle.ih_plan.specs.declared.moves.Write.{Write}
use Rattle.ih_plan.specs.declared.moves.Write.TheVariants.{SetCare}
use Rattle.ih_fill.proofs.CandidateLemmas.{no-nurse-fits}
use Rattle.ih_fill.proofs.ValueLemmas.{care-is}
use Rattle.ih_fill.proofs.scoring.Scorer.no_nurse.Goals as goal

pub valued-requires : goal.valued-requires
valued-requires c = let I = c.args.self.now.instance in no-nurse-fits I c.args.room c.args.shift c.requires.room c.requires.shift

pub returns : goal.returns
returns c =
    let F = c.args.self.now in
    let w : Write = SetCare c.args.room c.args.shift None in
    c.valued.ensures ∙ care-is F w
