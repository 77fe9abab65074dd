use Rattle.std.proofs.Common.{arith}
use Rattle.std.proofs.lemmas.List.{length-map}
use Rattle.ih_cellbook.proofs.BookKeeping.{history-short}
use Rattle.ih_cellbook.proofs.books.Book.front.Goals as goal

pub overflow_cast-result : goal.overflow_cast-result
overflow_cast-result g c =
    let p = c.self.inside.parts.value in
    let short = history-short _ _ _ _ _ _ p.inst.now.valid c.self.invariant.0 in
    let len = rw c.deref.ensures at c.len.ensures in
    let whole = p.entries.ok.0 in
    let same = length-map p.entries.items g.E.Logged.tried in
    omega (arith, short, len, whole, same)
