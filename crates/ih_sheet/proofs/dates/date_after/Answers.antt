use Rattle.std.proofs.Common.{◌≡◌, ◌∙◌, arith, pos, to_z, w64}
use Rattle.std.proofs.lemmas.Int.{to_z_pos}
use Rattle.std.proofs.lemmas.Result.{IfOk-weaker}
use Rattle.jiff.proofs.SpanFacts.{can_add-days, date_add-days}
use Rattle.ih_sheet.proofs.DateSteps.{date-added}
use Rattle.ih_sheet.proofs.dates.date_after.Goals as goal

pub returns : goal.returns
returns c =
    let few : to_z w64 c.args.days ≡ pos c.args.days = to_z_pos w64 c.args.days (omega (arith, c.requires)) in
    let only = rw few at c.days.ensures in
    let can = can_add-days c.args.first (pos c.args.days) c.days.result only in
    let succeeds = c.checked_add.ensures.succeeds in
    let value = IfOk-weaker c.checked_add.result _ _ (λ d e. e ∙ date_add-days c.args.first (pos c.args.days) c.days.result only) c.checked_add.ensures.value in
    let made = date-added c.args.first c.args.days c.checked_add.result (λ ok. can.0 (succeeds.0 ok), λ day. succeeds.1 (can.1 day)) value in
    rw c.ok.ensures.value made
