use Rattle.std.proofs.Common.{◌+◌, ◌<◌, ◌∙◌, sym, ap, subst, arith, refl, ℕ, ◌++◌, Some}
use Rattle.std.proofs.lemmas.List.{append-nil}
use Rattle.ih_tables.specs.Sizes.{theatre_count}
use Rattle.ih_plan.specs.declared.moves.Write.{Write}
use Rattle.ih_plan.specs.declared.moves.Write.TheVariants.{SetStay}
use Rattle.ih_fill.specs.Candidates.{stays_in}
use Rattle.ih_fill.specs.ScorerState.{stay_value}
use Rattle.ih_fill.proofs.CandidateLemmas.{stay-fits}
use Rattle.ih_parfill.specs.Shares.{HasLooked}
use Rattle.ih_parfill.specs.declared.scans.ShareScan.{ShareScan}
use Rattle.ih_fill.proofs.ListLemmas.{listed-more}
use Rattle.ih_parfill.proofs.stays.look_in_room.Goals as goal
use Rattle.ih_parfill.proofs.stays.look_in_room.Goals.{then-is_own, else-is_own}

pub loop-t-init : goal.loop-t-init
loop-t-init c = record {
  looked = λ ws looked. rw (append-nil ws) looked;
  passed = omega arith;
  workers = refl;
  worker = refl;
}

pub loop-t-preserved : goal.loop-t-preserved
loop-t-preserved c =
    let I = c.args.inst.now.draft in
    let v = stay_value c.args.scorer.now in
    let t = c.loop-t.t in
    let f : ℕ → Write = λ t. SetStay c.args.patient (Some (record { day = c.args.day; room = c.args.room; theatre = record { 0 = t } })) in
    let before = c.loop-t.invariant in
    let below = c.loop-t-test.true in
    let count = c.theatres-t-end.ensures in
    let inside : t < theatre_count I = omega (arith, below, count) in
    elim c.if-is_own.branch [
      | then-is_own w ↦ record {
        looked = λ ws looked. subst (HasLooked I v (ws ++ stays_in c.args.patient c.args.day.0 c.args.room.0 (t + 1))) (sym w.scan-is)
            (subst (λ xs. HasLooked I v xs w.look.new.self) (listed-more ws f t)
            (w.look.ensures.looked I v (ws ++ stays_in c.args.patient c.args.day.0 c.args.room.0 t) (f t) (before.looked ws looked) w.stay.ensures
            (stay-fits I c.args.patient _ c.requires.patient (record { day = c.requires.day; room = c.requires.room; theatre = inside }))));
        passed = rw w.scan-is (let more = w.look.ensures.passed in let sum = before.passed in omega (arith, more, sum));
        workers = rw w.scan-is (w.look.ensures.workers ∙ before.workers);
        worker = rw w.scan-is (w.look.ensures.worker ∙ before.worker);
      }
      | else-is_own w ↦ record {
        looked = λ ws looked. subst (HasLooked I v (ws ++ stays_in c.args.patient c.args.day.0 c.args.room.0 (t + 1))) (sym w.scan-is)
            (subst (λ xs. HasLooked I v xs w.pass.new.self) (listed-more ws f t)
            (w.pass.ensures.looked I v (ws ++ stays_in c.args.patient c.args.day.0 c.args.room.0 t) (f t) (before.looked ws looked)));
        passed = rw w.scan-is (let more = ap (λ (s : ShareScan). s.passed) w.pass.ensures.same in let sum = before.passed in omega (arith, more, sum));
        workers = rw w.scan-is (ap (λ (s : ShareScan). s.workers) w.pass.ensures.same ∙ before.workers);
        worker = rw w.scan-is (ap (λ (s : ShareScan). s.worker) w.pass.ensures.same ∙ before.worker);
      }
    ]
