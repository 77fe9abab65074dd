use Rattle.std.proofs.Common.{◌≡◌, ◌++◌}
use Rattle.std.specs.Prelude.{string_bytes}
use Rattle.ih_validate.specs.Report.{lines_below}
use Rattle.ih_mends.specs.Texts.{rule_line}
use Rattle.ih_mends.proofs.lines.put_rules.Given as goal

abbrev pub invariant-loop-rule : goal.invariant-loop-rule
invariant-loop-rule l =
    string_bytes l.out ≡ string_bytes l.initial.out ++ lines_below l.rule (rule_line l.inst.draft l.scorer.plan)
