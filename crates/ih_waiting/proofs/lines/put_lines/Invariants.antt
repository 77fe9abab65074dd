use Rattle.std.proofs.Common.{◌≡◌, ◌++◌}
use Rattle.std.specs.Prelude.{flat_map, string_bytes}
use Rattle.ih_plan.specs.Sums.{which_below}
use Rattle.ih_fill.specs.Fill.{is_waiting}
use Rattle.ih_waiting.specs.Waiting.{patient_line}
use Rattle.ih_waiting.proofs.lines.put_lines.Given as goal

abbrev pub invariant-loop-p : goal.invariant-loop-p
invariant-loop-p l = string_bytes l.out
    ≡ string_bytes l.initial.out
    ++ flat_map (patient_line l.inst.draft l.scorer.plan l.mandatory) (which_below l.p (is_waiting l.inst.draft l.scorer.plan l.mandatory))
