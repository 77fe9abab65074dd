use Rattle.std.proofs.Common.{◌≡◌, ◌<◌, ◌+◌, ◌∙◌, sym, ap, arith, ℕ, map, Some, Bool, List, [], ◌∷◌, ◌++◌}
use Rattle.std.specs.Prelude.{filter, is_some}
use Rattle.ih_tables.specs.declared.ids.NurseNo.{NurseNo}
use Rattle.ih_tables.specs.Sizes.{nurse_count}
use Rattle.ih_tables.specs.Works.{first_nurses, is_working}
use Rattle.ih_plan.specs.declared.moves.Write.{Write}
use Rattle.ih_plan.specs.declared.moves.Write.TheVariants.{SetCare}
use Rattle.ih_fill.specs.Candidates.{care_writes}
use Rattle.ih_fill.specs.ScorerState.{care_value}
use Rattle.ih_fill.proofs.CandidateLemmas.{care-fits}
use Rattle.ih_fill.proofs.ListLemmas.{nurse-more, nurse-same}
use Rattle.ih_parfill.specs.declared.scans.ShareScan.{ShareScan}
use Rattle.ih_parfill.proofs.Least.{looked-none, of-share}
use Rattle.ih_parfill.proofs.nurses.least_nurse_of_share.Goals as goal
use Rattle.ih_parfill.proofs.nurses.least_nurse_of_share.Goals.{then-is_some+then-is_own, then-is_some+else-is_own, else-is_some}

pub loop-n-init : goal.loop-n-init
loop-n-init c = record {
  looked = looked-none (care_value c.args.scorer.now) c.args.inst.now.draft c.new-scan.result (ap (λ (s : ShareScan). s.passed) c.new-scan.ensures) (ap (λ (s : ShareScan). s.best) c.new-scan.ensures);
  passed = let none = ap (λ (s : ShareScan). s.passed) c.new-scan.ensures in omega (arith, none);
  workers = ap (λ (s : ShareScan). s.workers) c.new-scan.ensures;
  worker = ap (λ (s : ShareScan). s.worker) c.new-scan.ensures;
}

pub loop-n-preserved : goal.loop-n-preserved
loop-n-preserved c =
    let I = c.args.inst.now.draft in
    let v = care_value c.args.scorer.now in
    let n = c.loop-n.n in
    let nurse : NurseNo = record { 0 = n } in
    let f : NurseNo → Write = λ m. SetCare c.args.room c.args.shift (Some m) in
    let works : NurseNo → Bool = is_working I c.args.shift.0 in
    let behind : List Write = map f (filter works (first_nurses n)) in
    let before = c.loop-n.invariant in
    let passed = before.passed in
    let answered : works nurse ≡ c.is_some.result = ap is_some (sym c.works.ensures) ∙ sym c.is_some.ensures in
    let below = c.loop-n-test.true in
    let count = c.nurses-n-end.ensures in
    let inside : n < nurse_count I = omega (arith, below, count) in
    elim c.if-is_some.branch [
      | then-is_some+then-is_own w ↦
          let more : map f (filter works (first_nurses (n + 1))) ≡ behind ++ f nurse ∷ [] = nurse-more f n works (answered ∙ w.if-is_some.true) in
          let sum = w.look.ensures.passed in
          record {
            looked = rw (w.scan-is, more)
                (w.look.ensures.looked I v behind (f nurse) before.looked w.care.ensures
                (care-fits I c.args.room c.args.shift nurse c.requires.room c.requires.shift inside));
            passed = rw w.scan-is (omega (arith, passed, sum));
            workers = rw w.scan-is (w.look.ensures.workers ∙ before.workers);
            worker = rw w.scan-is (w.look.ensures.worker ∙ before.worker);
          }
      | then-is_some+else-is_own w ↦
          let more : map f (filter works (first_nurses (n + 1))) ≡ behind ++ f nurse ∷ [] = nurse-more f n works (answered ∙ w.if-is_some.true) in
          let sum = ap (λ (s : ShareScan). s.passed) w.pass.ensures.same in
          record {
            looked = rw (w.scan-is, more) (w.pass.ensures.looked I v behind (f nurse) before.looked);
            passed = rw w.scan-is (omega (arith, passed, sum));
            workers = rw w.scan-is (ap (λ (s : ShareScan). s.workers) w.pass.ensures.same ∙ before.workers);
            worker = rw w.scan-is (ap (λ (s : ShareScan). s.worker) w.pass.ensures.same ∙ before.worker);
          }
      | else-is_some w ↦
          let same : map f (filter works (first_nurses (n + 1))) ≡ behind = nurse-same f n works (answered ∙ w.if-is_some.false) in
          record {
            looked = rw (w.scan-is, same) before.looked;
            passed = rw w.scan-is (omega (arith, passed));
            workers = rw w.scan-is before.workers;
            worker = rw w.scan-is before.worker;
          }
    ]

pub returns : goal.returns
returns c =
    let I = c.args.inst.now.draft in
    let v = care_value c.args.scorer.now in
    let last = c.loop-n-test.false in
    let end = c.loop-n.auto.n-end in
    let count = c.nurses-n-end.ensures in
    let all : c.loop-n.n ≡ nurse_count I = omega (arith, last, end, count) in
    let f : NurseNo → Write = λ m. SetCare c.args.room c.args.shift (Some m) in
    let works : NurseNo → Bool = is_working I c.args.shift.0 in
    of-share v I (map f (filter works (first_nurses c.loop-n.n))) (care_writes I c.args.room.0 c.args.shift.0) c.loop-n.scan c.args.workers c.args.worker c.loop-n.invariant.looked
    (ap (λ m. map f (filter works (first_nurses m))) all) c.loop-n.invariant.workers c.loop-n.invariant.worker
