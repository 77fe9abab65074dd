use Rattle.std.proofs.Common.{[]}
use Rattle.ih_plan.specs.declared.moves.Write.TheVariants.{SetStay}
use Rattle.std.proofs.Common.{None}
use Rattle.ih_fill.specs.ScorerState.{stay_value}
use Rattle.ih_fill.proofs.CandidateLemmas.{out-fits}
use Rattle.ih_parfill.proofs.Least.{looked-none}
use Rattle.ih_parfill.proofs.stays.look_at_none.Goals as goal

pub returns-then-is_own-clause-looked : goal.returns-then-is_own-clause-looked
returns-then-is_own-clause-looked c =
    let I = c.args.scorer.now.instance in
    let v = stay_value c.args.scorer.now in
    c.look.ensures.looked I v [] (SetStay c.args.patient None) (looked-none v I c.args.scan.now c.requires.first c.requires.none) c.left_out.ensures (out-fits I c.args.patient c.requires.patient)

pub returns-else-is_own-clause-looked : goal.returns-else-is_own-clause-looked
returns-else-is_own-clause-looked c =
    let I = c.args.scorer.now.instance in
    let v = stay_value c.args.scorer.now in
    c.pass.ensures.looked I v [] (SetStay c.args.patient None) (looked-none v I c.args.scan.now c.requires.first c.requires.none)
