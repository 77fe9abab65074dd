use Rattle.std.proofs.Common.{◌∙◌, ◌≡◌, List, ap, false, map, sym, take}
use Rattle.ih_plan.specs.Timetable.{Timetable}
use Rattle.ih_improve.specs.Better.{best_of, is_better, is_better_than, standing_of}
use Rattle.ih_improve.specs.Keeping.{best_met}
use Rattle.ih_improve.specs.declared.comparing.Standing.{Standing}
use Rattle.ih_improve.proofs.BetterLemmas.{best-same}
use Rattle.ih_improve.proofs.improver.take_best.Goals as goal

pub returns-clause-same : goal.returns-clause-same
returns-clause-same c = λ no.
    let t = c.args.measure.now in
    let P = c.args.kept.now in
    let Qs : List Timetable = map best_met (take c.loop-worker.worker-index c.args.workers.now) in
    let own = c.loop-worker.invariant in
    let w = t.instance.weights in
    let off : is_better_than t (best_of t P Qs) P ≡ false =
    ap (λ (A : Timetable). is_better_than t A P) (sym own.best)
    ∙ ap (λ (s : Standing). is_better t.settings.hard t.settings.keep w s (standing_of t P)) (sym own.standing)
    ∙ ap (λ (s : Standing). is_better t.settings.hard t.settings.keep w c.loop-worker.standing s) (sym c.requires.standing) ∙ (sym c.is_better.ensures ∙ no) in
    own.best ∙ best-same t P Qs off

pub is_better-requires-clause-first : goal.is_better-requires-clause-first
is_better-requires-clause-first c =
    let own = c.loop-worker.invariant in
    rw own.standing (c.know_bills.ensures c.loop-worker.kept own.fits)

pub is_better-requires-clause-second : goal.is_better-requires-clause-second
is_better-requires-clause-second c = rw c.requires.standing (c.know_bills.ensures c.args.kept.now c.requires.kept)
