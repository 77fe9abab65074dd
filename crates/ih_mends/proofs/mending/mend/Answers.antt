use Rattle.std.proofs.Common.{rules, ◌∙◌, ◌<◌, sym, subst, refl, arith, length}
use Rattle.std.specs.Prelude.{IfSome}
use Rattle.std.proofs.lemmas.Option.{slice_get-get_or}
use Rattle.ih_plan.specs.declared.limits.TheConstants.{MAX_HARD}
use Rattle.ih_plan.specs.Writes.{IsWriteOf}
use Rattle.ih_fill.specs.declared.candidates.Candidate.{Candidate}
use Rattle.ih_fill.specs.Choices.{all_choices}
use Rattle.ih_replacements.specs.Replacements.{value_of}
use Rattle.ih_mends.specs.Mends.{lowers}
use Rattle.ih_mends.proofs.Keeping.{either-fits, is-valued, kept-all, kept-cheaper, kept-first, kept-same}
use Rattle.ih_mends.proofs.mending.mend.Goals as goal
use Rattle.ih_mends.proofs.mending.mend.Goals.{then-lowers+in-None, then-lowers+in-Some, else-lowers}

pub loop-i-init : goal.loop-i-init
loop-i-init c = record { least = refl; fits = search rules }

pub loop-i-preserved : goal.loop-i-preserved
loop-i-preserved c =
    let I = c.args.inst.now.draft in
    let P = c.args.scorer.now.plan in
    let i = c.loop-i.i in
    let cs = c.args.changes.now in
    let v = value_of I MAX_HARD P in
    let q = lowers I P c.args.rule in
    let before = c.loop-i.invariant in
    let below = c.loop-i-test.true in
    let inside : i < length cs = omega (arith, below) in
    elim c.if-lowers.branch [
      | then-lowers+in-None w ↦ record {
        least = kept-first v q cs i _ c.loop-i.best _ (slice_get-get_or cs i _ inside)
            (is-valued I P (all_choices I) cs i _ c.requires.changes.best (slice_get-get_or cs i _ inside))
            before.least (sym c.lowers.ensures ∙ w.if-lowers.true) (sym w.in-None.is) w.best-is;
        fits = rw w.best-is (c.requires.changes.fit i _ inside);
      }
      | then-lowers+in-Some w ↦
          let first : IsWriteOf I w.in-Some.first.write = subst (λ o. IfSome o (λ (b : Candidate). IsWriteOf I b.write)) w.in-Some.is before.fits in
          record {
            least = kept-cheaper v q cs i _ w.in-Some.first _ c.loop-i.best _ (slice_get-get_or cs i _ inside)
                (is-valued I P (all_choices I) cs i _ c.requires.changes.best (slice_get-get_or cs i _ inside))
                before.least (sym c.lowers.ensures ∙ w.if-lowers.true) (sym w.in-Some.is) w.cheaper.ensures w.best-is;
            fits = either-fits (IsWriteOf I) w.in-Some.first _ _ _ w.cheaper.ensures w.best-is first (c.requires.changes.fit i _ inside);
          }
      | else-lowers w ↦ record {
        least = w.best-is ∙ kept-same v q cs i _ c.loop-i.best (slice_get-get_or cs i _ inside) before.least (sym c.lowers.ensures ∙ w.if-lowers.false);
        fits = rw w.best-is before.fits;
      }
    ]

pub returns-clause-least : goal.returns-clause-least
returns-clause-least c =
    let ended = c.loop-i-test.false in
    kept-all c.args.inst.now.draft c.args.scorer.now.plan c.args.rule c.loop-i.i c.args.changes.now c.loop-i.best
    c.requires.changes.best (omega (arith, ended)) c.loop-i.invariant.least
