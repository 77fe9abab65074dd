use Rattle.std.proofs.Common.{rules, ◌≡◌, ◌<◌, ◌+◌, ◌∙◌, sym, ap, subst, refl, arith, ℕ, map, Some, Bool, [], ◌∷◌, ◌++◌}
use Rattle.std.specs.Prelude.{filter, is_some, IfSome}
use Rattle.ih_tables.specs.declared.ids.NurseNo.{NurseNo}
use Rattle.ih_tables.specs.Sizes.{nurse_count}
use Rattle.ih_tables.specs.Works.{first_nurses, is_working}
use Rattle.ih_plan.specs.declared.moves.Write.{Write}
use Rattle.ih_plan.specs.declared.moves.Write.TheVariants.{SetCare}
use Rattle.ih_plan.specs.Writes.{IsWriteOf}
use Rattle.ih_fill.specs.declared.candidates.Candidate.{Candidate}
use Rattle.ih_fill.specs.Candidates.{valued, least_of}
use Rattle.ih_fill.specs.ScorerState.{care_value}
use Rattle.ih_fill.proofs.CandidateLemmas.{next-of, least_with, cheaper-either, care-fits}
use Rattle.ih_fill.proofs.ListLemmas.{nurse-more, nurse-same}
use Rattle.ih_fill.proofs.nurses.cheapest_nurse.Goals as goal
use Rattle.ih_fill.proofs.nurses.cheapest_nurse.Goals.{then-is_some+in-None, then-is_some+in-Some, else-is_some}

pub loop-n-init : goal.loop-n-init
loop-n-init c = record { least = refl; fits = search rules }

pub loop-n-preserved : goal.loop-n-preserved
loop-n-preserved c =
    let I = c.args.inst.now.draft in
    let F = c.args.scorer.now in
    let n = c.loop-n.n in
    let nurse : NurseNo = record { 0 = n } in
    let f : NurseNo → Write = λ m. SetCare c.args.room c.args.shift (Some m) in
    let works : NurseNo → Bool = is_working I c.args.shift.0 in
    let before = map f (filter works (first_nurses n)) in
    let least = c.loop-n.invariant.least in
    let answered : works nurse ≡ c.is_some.result = ap is_some (sym c.works.ensures) ∙ sym c.is_some.ensures in
    let below = c.loop-n-test.true in
    let count = c.nurses-n-end.ensures in
    let inside : n < nurse_count I = omega (arith, below, count) in
    let fits : IsWriteOf I (f nurse) = care-fits I c.args.room c.args.shift nurse c.requires.room c.requires.shift inside in
    elim c.if-is_some.branch [
      | then-is_some+in-None w ↦
          let more : map f (filter works (first_nurses (n + 1))) ≡ before ++ f nurse ∷ [] = nurse-more f n works (answered ∙ w.if-is_some.true) in
          let second : w.care-candidate.result ≡ valued (care_value F) (f nurse) = w.care-candidate.ensures in
          record {
            least = w.best-is ∙ (ap (λ o. Some (least_with o w.care-candidate.result)) (sym w.in-None.is)
                ∙ (next-of (care_value F) before (f nurse) c.loop-n.best w.care-candidate.result least second ∙ ap (least_of (care_value F)) (sym more)));
            fits = rw w.best-is (subst (λ (b : Candidate). IsWriteOf I b.write) (sym second) fits);
          }
      | then-is_some+in-Some w ↦
          let more : map f (filter works (first_nurses (n + 1))) ≡ before ++ f nurse ∷ [] = nurse-more f n works (answered ∙ w.if-is_some.true) in
          let second : w.care-candidate.result ≡ valued (care_value F) (f nurse) = w.care-candidate.ensures in
          let first : IsWriteOf I w.in-Some.first.write = subst (λ o. IfSome o (λ (b : Candidate). IsWriteOf I b.write)) w.in-Some.is c.loop-n.invariant.fits in
          record {
            least = w.best-is ∙ (ap Some w.cheaper.ensures ∙ (ap (λ o. Some (least_with o w.care-candidate.result)) (sym w.in-Some.is)
                ∙ (next-of (care_value F) before (f nurse) c.loop-n.best w.care-candidate.result least second ∙ ap (least_of (care_value F)) (sym more))));
            fits = rw w.best-is (subst (λ (b : Candidate). IsWriteOf I b.write) (sym w.cheaper.ensures)
                (cheaper-either (IsWriteOf I) w.in-Some.first w.care-candidate.result first (subst (λ (b : Candidate). IsWriteOf I b.write) (sym second) fits)));
          }
      | else-is_some w ↦
          let same : map f (filter works (first_nurses (n + 1))) ≡ before = nurse-same f n works (answered ∙ w.if-is_some.false) in
          record {
            least = w.best-is ∙ (least ∙ ap (least_of (care_value F)) (sym same));
            fits = rw w.best-is c.loop-n.invariant.fits;
          }
    ]
