use Rattle.std.proofs.Common.{◌≡◌, arith, ℕ, Bool, not}
use Rattle.std.specs.Prelude.{◌==◌}
use Rattle.std.proofs.lemmas.Bool.Decides.{nat_tests}
use Rattle.std.proofs.lemmas.List.{append-nil}
use Rattle.std.proofs.lemmas.List.Elements.{filter_more}
use Rattle.ih_sheet.proofs.lines.digits.Goals as goal
use Rattle.ih_sheet.proofs.lines.digits.Goals.{then-byte-ne45+in_ok-push, else-byte-ne45}

pub loop-byte-preserved : goal.loop-byte-preserved
loop-byte-preserved c =
    let keep : ℕ → Bool = λ b. not (b == 45) in
    let more = filter_more keep c.as_bytes-bytes.result.now c.loop-byte.byte-index 0 c.loop-byte-test.true in
    elim c.if-byte-ne45.branch [
      | then-byte-ne45+in_ok-push w ↦ rw w.text-is (grind (arith, nat_tests, append-nil, more))
      | else-byte-ne45 w ↦ rw w.text-is (grind (arith, nat_tests, append-nil, more))
    ]
