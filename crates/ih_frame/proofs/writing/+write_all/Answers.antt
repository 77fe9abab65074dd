use Rattle.std.proofs.Common.{List, ℕ, map, subst, sym}
use Rattle.ih_shelf.specs.Outside.{IfTold, MayBeWritten}
use Rattle.ih_endings.specs.Answers.{Answers}
use Rattle.ih_frame.specs.declared.outcome.Writing.{Writing}
use Rattle.ih_frame.specs.Outcomes.{IsStopped, writing_of}
use Rattle.ih_frame.proofs.Leaving.{stops-first}
use Rattle.ih_frame.proofs.writing.+write_all.Goals as goal

pub returns-in-Err-clause-stopped : goal.returns-in-Err-clause-stopped
returns-in-Err-clause-stopped g t c =
    let old = g.S.Shelf.names c.args.shelf.now in
    let new = g.S.Shelf.names c.write.new.self in
    let w = writing_of c.in-Some.writing.now in
    let part = subst (λ (bytes : List ℕ). IfTold (MayBeWritten w.name bytes) old new) c.as_slice.ensures.value c.in-Err.ensures.part in
    subst (λ (ws : List Writing). Answers (IsStopped (map writing_of ws) old new) c.unwritten.result) (sym c.in-Some.ensures.cases.0)
    (stops-first w (map writing_of c.in-Some.later.now) old new part c.in-Err.error c.unwritten.result c.unwritten.ensures)
