use Rattle.std.proofs.Common.{not, ◌≡◌, ◌+◌, ◌∙◌, ap, sym, subst, arith, refl, ℕ, List, ◌++◌, true, false}
use Rattle.std.proofs.lemmas.List.{append-nil}
use Rattle.ih_tables.specs.Sizes.{theatre_count}
use Rattle.ih_plan.specs.declared.moves.Write.{Write}
use Rattle.ih_fill.specs.Candidates.{stays_in, stays_on, suits}
use Rattle.ih_fill.specs.ScorerState.{stay_value}
use Rattle.ih_parfill.specs.Shares.{HasLooked}
use Rattle.ih_parfill.proofs.CandidateLists.{room-more, room-same}
use Rattle.ih_parfill.proofs.stays.look_on_day.Goals as goal
use Rattle.ih_parfill.proofs.stays.look_on_day.Goals.{then-suits, else-suits}

pub loop-r-init : goal.loop-r-init
loop-r-init c = record {
  looked = λ ws looked. rw (append-nil ws) looked;
  passed = omega arith;
  workers = refl;
  worker = refl;
}

pub loop-r-preserved : goal.loop-r-preserved
loop-r-preserved c =
    let I = c.args.inst.now.draft in
    let v = stay_value c.args.scorer.now in
    let a = c.args.patient.now in
    let r = c.loop-r.r in
    let f : ℕ → List Write = λ r. stays_in c.args.patient_no c.args.day.0 r (theatre_count I) in
    let before = c.loop-r.invariant in
    let passed = before.passed in
    elim c.if-suits.branch [
      | then-suits w ↦
          let yes : suits a r ≡ true = ap not (sym c.is_incompatible-suits.ensures ∙ w.if-suits.true) in
          let more = w.look_in_room.ensures.passed in
          record {
            looked = λ ws looked. subst (HasLooked I v (ws ++ stays_on I c.args.patient_no a c.args.day.0 (r + 1))) (sym w.scan-is)
                (subst (λ xs. HasLooked I v xs w.look_in_room.new.scan) (room-more ws f a r yes)
                (w.look_in_room.ensures.looked (ws ++ stays_on I c.args.patient_no a c.args.day.0 r) (before.looked ws looked)));
            passed = rw w.scan-is (omega (arith, passed, more));
            workers = rw w.scan-is (w.look_in_room.ensures.workers ∙ before.workers);
            worker = rw w.scan-is (w.look_in_room.ensures.worker ∙ before.worker);
          }
      | else-suits w ↦
          let no : suits a r ≡ false = ap not (sym c.is_incompatible-suits.ensures ∙ w.if-suits.false) in
          record {
            looked = λ ws looked. subst (HasLooked I v (ws ++ stays_on I c.args.patient_no a c.args.day.0 (r + 1))) (sym w.scan-is)
                (subst (λ xs. HasLooked I v xs c.loop-r.scan) (room-same ws f a r no) (before.looked ws looked));
            passed = rw w.scan-is (omega (arith, passed));
            workers = rw w.scan-is before.workers;
            worker = rw w.scan-is before.worker;
          }
    ]
