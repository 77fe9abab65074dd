use Rattle.std.proofs.Common.{rules, ◌∙◌, ap, arith}
use Rattle.std.specs.Prelude.{pos, ◌<ℤ◌, ◌≤ℤ◌}
use Rattle.std.specs.Int.{w64}
use Rattle.std.proofs.lemmas.Int.{ints, to_z-of_z}
use Rattle.ih_tables.specs.declared.drafts.Draft.{Draft}
use Rattle.ih_plan.specs.Writes.{put}
use Rattle.ih_plan.specs.BillOf.{change_of_bill}
use Rattle.ih_advise.proofs.Choices.{best-advised, none-advised}
use Rattle.ih_advise.proofs.choosing.advice_on.Goals as goal

pub returns-then-best-lt0 : goal.returns-then-best-lt0
returns-then-best-lt0 c =
    let F = c.args.scorer.now in
    let best = c.best_replacement-best.result in
    let same = to_z-of_z w64 best.value (search rules) in
    let low : best.value <ℤ pos 0 = omega (arith, ints, same, c.if-best-lt0.true) in
    let price = c.price.ensures ∙ ap (λ (I : Draft). change_of_bill I F.plan (put best.write F.plan)) c.requires.instance in
    rw same (best-advised c.args.inst.now.draft F.hard F.plan c.args.choice best c.price.result c.best_replacement-best.ensures.best low price)

pub returns-else-best-lt0 : goal.returns-else-best-lt0
returns-else-best-lt0 c =
    let F = c.args.scorer.now in
    let best = c.best_replacement-best.result in
    let same = to_z-of_z w64 best.value (search rules) in
    let high : pos 0 ≤ℤ best.value = omega (arith, ints, same, c.if-best-lt0.false) in
    none-advised c.args.inst.now.draft F.hard F.plan c.args.choice best c.best_replacement-best.ensures.best high
