use Rattle.std.proofs.Common.{rules, ◌+◌, ℕ, string_bytes}
use Rattle.std.specs.Prelude.{FitsSigned}
use Rattle.std.specs.Int.{w64}
use Rattle.std.proofs.lemmas.List.{append-nil}
use Rattle.std.proofs.lemmas.Int.{to_z-of_z}
use Rattle.ih_tables.specs.Bills.{at}
use Rattle.ih_validate.specs.Report.{rule_line}
use Rattle.ih_validate.proofs.Lines.{lines_below-zero, one-more}
use Rattle.ih_validate.proofs.reports.put_rules.Goals as goal

pub loop-i-init : goal.loop-i-init
loop-i-init c = simp (lines_below-zero, append-nil)

pub loop-i-preserved : goal.loop-i-preserved
loop-i-preserved c =
    let fits : FitsSigned w64 (at c.args.rules.now c.loop-i.i) = search rules in
    one-more c.loop-i.i (λ (i : ℕ). rule_line (i + 1) (at c.args.rules.now i)) (string_bytes c.args.out.now) (string_bytes c.loop-i.out) c.as_str.result.now
    (string_bytes c.in_ok-line.line) (string_bytes c.push_str.new.self)
    c.in_ok-push_str.ensures.bytes c.as_str.ensures.value c.loop-i.invariant (simp to_z-of_z at c.in_ok-line.ensures)
