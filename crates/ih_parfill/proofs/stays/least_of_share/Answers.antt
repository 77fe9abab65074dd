use Rattle.std.proofs.Common.{◌≡◌, ◌+◌, ◌∙◌, sym, ap, subst, arith, refl, ℕ, List, [], ◌∷◌, None}
use Rattle.std.specs.Prelude.{flat_map}
use Rattle.std.specs.List.{range_with_len}
use Rattle.ih_tables.specs.declared.drafts.Draft.{Draft}
use Rattle.ih_tables.specs.Sizes.{room_count}
use Rattle.ih_plan.specs.declared.moves.Write.{Write}
use Rattle.ih_plan.specs.declared.moves.Write.TheVariants.{SetStay}
use Rattle.ih_plan.specs.Draws.{window_len}
use Rattle.ih_fill.specs.Candidates.{stay_writes, stays_on}
use Rattle.ih_fill.specs.ScorerState.{stay_value}
use Rattle.ih_fill.proofs.ListLemmas.{flat-more, stays-are}
use Rattle.ih_parfill.specs.declared.scans.ShareScan.{ShareScan}
use Rattle.ih_parfill.specs.Shares.{HasLooked}
use Rattle.ih_parfill.proofs.Least.{of-share}
use Rattle.ih_parfill.proofs.stays.least_of_share.Goals as goal

pub loop-later-init : goal.loop-later-init
loop-later-init c = record {
  looked = subst (λ (I : Draft). HasLooked I (stay_value c.args.scorer.now) (SetStay c.args.patient_no None ∷ []) c.look_at_none.new.scan) c.requires.instance c.look_at_none.ensures.looked;
  passed = let one = c.look_at_none.ensures.passed in omega (arith, one);
  workers = c.look_at_none.ensures.workers ∙ ap (λ (s : ShareScan). s.workers) c.new-scan.ensures;
  worker = c.look_at_none.ensures.worker ∙ ap (λ (s : ShareScan). s.worker) c.new-scan.ensures;
}

pub loop-later-preserved : goal.loop-later-preserved
loop-later-preserved c =
    let I = c.args.inst.now.draft in
    let v = stay_value c.args.scorer.now in
    let a = c.args.patient.now in
    let n = c.loop-later.later in
    let from = a.surgery_release_day in
    let f : ℕ → List Write = λ d. stays_on I c.args.patient_no a d (room_count I) in
    let none : Write = SetStay c.args.patient_no None in
    let before = c.loop-later.invariant in
    let passed = before.passed in
    let more = c.look_on_day.ensures.passed in
    record {
      looked = subst (λ xs. HasLooked I v (none ∷ xs) c.look_on_day.new.scan) (sym (flat-more f from n (from + n) refl))
          (c.look_on_day.ensures.looked (none ∷ flat_map f (range_with_len from n)) before.looked);
      passed = omega (arith, passed, more);
      workers = c.look_on_day.ensures.workers ∙ before.workers;
      worker = c.look_on_day.ensures.worker ∙ before.worker;
    }

pub returns : goal.returns
returns c =
    let I = c.args.inst.now.draft in
    let v = stay_value c.args.scorer.now in
    let a = c.args.patient.now in
    let last = c.loop-later-test.false in
    let end = c.loop-later.auto.later-end in
    let count = c.window_len-later-end.ensures.value in
    let all : c.loop-later.later ≡ window_len I a = omega (arith, last, end, count) in
    let f : ℕ → List Write = λ d. stays_on I c.args.patient_no a d (room_count I) in
    let looked = c.loop-later.invariant.looked in
    let ws : flat_map f (range_with_len a.surgery_release_day c.loop-later.later) ≡ stay_writes I c.args.patient_no.0 =
    ap (λ n. flat_map f (range_with_len a.surgery_release_day n)) all ∙ stays-are I c.args.patient_no a c.requires.patient in
    let none : Write = SetStay c.args.patient_no None in
    of-share v I (none ∷ flat_map f (range_with_len a.surgery_release_day c.loop-later.later)) (none ∷ stay_writes I c.args.patient_no.0) c.loop-later.scan c.args.workers c.args.worker looked
    (ap (λ xs. none ∷ xs) ws)
    c.loop-later.invariant.workers c.loop-later.invariant.worker
