use Rattle.std.proofs.Common.{◌≡◌, ◌+◌, ◌∙◌, sym, ap, refl, arith, ℕ, List}
use Rattle.std.specs.Prelude.{flat_map}
use Rattle.std.specs.List.{range_with_len}
use Rattle.ih_tables.specs.Sizes.{room_count}
use Rattle.ih_plan.specs.declared.moves.Write.{Write}
use Rattle.ih_plan.specs.Draws.{window_len}
use Rattle.ih_fill.specs.Candidates.{cheapest, valued, stays_on}
use Rattle.ih_fill.specs.ScorerState.{stay_value}
use Rattle.ih_fill.proofs.CandidateLemmas.{then-least}
use Rattle.ih_fill.proofs.ListLemmas.{flat-more, stays-are}
use Rattle.ih_fill.proofs.patients.cheapest_stay.Goals as goal

pub loop-later-preserved : goal.loop-later-preserved
loop-later-preserved c =
    let F = c.args.scorer.now in
    let a = c.args.patient.now in
    let n = c.loop-later.later in
    let from = a.surgery_release_day in
    let f : ℕ → List Write = λ d. stays_on c.args.inst.now.draft c.args.patient_no a d (room_count c.args.inst.now.draft) in
    let before = c.args.before.write in
    record {
      least = then-least (stay_value F) before (flat_map f (range_with_len from n))
          (f (from + n)) c.loop-later.best c.cheapest_on_day-best.result c.loop-later.invariant.least c.cheapest_on_day-best.ensures.least
          ∙ ap (λ ws. valued (stay_value F) (cheapest (stay_value F) before ws)) (sym (flat-more f from n (from + n) refl));
      fits = c.cheapest_on_day-best.ensures.fits;
    }

pub returns-clause-least : goal.returns-clause-least
returns-clause-least c =
    let I = c.args.inst.now.draft in
    let F = c.args.scorer.now in
    let a = c.args.patient.now in
    let all : c.loop-later.later ≡ window_len I a = omega (arith, c.loop-later-test.false, c.loop-later.auto.later-end, c.window_len-later-end.ensures.value) in
    let f : ℕ → List Write = λ d. stays_on I c.args.patient_no a d (room_count I) in
    c.loop-later.invariant.least
    ∙ ap (λ ws. valued (stay_value F) (cheapest (stay_value F) c.args.before.write ws))
    (ap (λ n. flat_map f (range_with_len a.surgery_release_day n)) all ∙ stays-are I c.args.patient_no a c.requires.patient)
