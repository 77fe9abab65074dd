use Rattle.std.proofs.Common.{◌∙◌, ap, sym, Some}
use Rattle.ih_plan.specs.Expand.{IsMoveOf}
use Rattle.ih_journal.proofs.InRange.{limits, move_short}
use Rattle.ih_journal.proofs.MoveTexts.{moves_differ}
use Rattle.ih_journal.proofs.Spelling.{no_other}
use Rattle.ih_journal.proofs.reading.parse_move.Goals as goal

pub returns-then-has_move-clause-only : goal.returns-then-has_move-clause-only
returns-then-has_move-clause-only c = λ m inside is.
    let read = c.in_ok-mv.ensures.some in
    ap Some (moves_differ c.in_ok-mv.mv m read.1 (move_short c.args.inst.now.draft m (limits c.args.inst.now.draft c.args.inst.now.valid) inside) (sym read.0 ∙ is))

pub returns-else-has_move-clause-only : goal.returns-else-has_move-clause-only
returns-else-has_move-clause-only c = λ m inside is.
    let read = c.in_ok-mv.ensures.some in
    let same = moves_differ c.in_ok-mv.mv m read.1 (move_short c.args.inst.now.draft m (limits c.args.inst.now.draft c.args.inst.now.valid) inside) (sym read.0 ∙ is) in
    absurd (no_other (IsMoveOf c.args.inst.now.draft) same c.if-has_move.ensures.1 inside)
