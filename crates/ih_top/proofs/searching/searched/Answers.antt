use Rattle.std.proofs.Common.{◌≡◌}
use Rattle.std.proofs.lemmas.Result.{IfOk-weaker}
use Rattle.ih_top.specs.Below.Arguments.{SolveCall, solve_call}
use Rattle.ih_top.specs.Below.Endings.{outcome_of}
use Rattle.ih_top.specs.Outputs.{search_outcome}
use Rattle.ih_top.proofs.searching.searched.Goals as goal

pub returns-clause-comes : goal.returns-clause-comes
returns-clause-comes g c =
    let s : SolveCall = solve_call c.args.call.now in
    let output = c.in_ok-output.output in
    IfOk-weaker c.search_outcome.result (λ o. outcome_of o ≡ search_outcome s output.journal.items output.best) _
    (λ o is. record { output = output; made = c.in_ok-output.ensures; left = is }) c.search_outcome.ensures.outcome
