use Rattle.std.proofs.Common.{◌≡◌, ◌∙◌, ap, map, take, drop, List}
use Rattle.ih_cellbook.specs.BufferState.{BufferState, most_copied}
use Rattle.ih_cellbook.proofs.Copies.{rest-copied}
use Rattle.ih_journal.proofs.Mapped.{map-drop, map-take}
use Rattle.ih_journal.specs.Tried.{Tried}
use Rattle.ih_cellbook.proofs.buffers.Buffer.copy_from.Goals as goal

pub returns-clause-copied : goal.returns-clause-copied
returns-clause-copied g c =
    let copied : c.extend_from_slice.new.self.items ≡ take most_copied (drop c.args.from c.args.entries.now) =
    rw (c.extend_from_slice.ensures.items, c.unwrap.ensures, c.clear.ensures.items) (rest-copied c.args.entries.now c.args.from c.min-count.result most_copied c.min-count.ensures) in
    let mapped : map g.E.Logged.tried c.extend_from_slice.new.self.items ≡ take most_copied (drop c.args.from (map g.E.Logged.tried c.args.entries.now)) =
    ap (map g.E.Logged.tried) copied
    ∙ (map-take g.E.Logged.tried most_copied (drop c.args.from c.args.entries.now)
    ∙ ap (take most_copied) (map-drop g.E.Logged.tried c.args.from c.args.entries.now)) in
    ap (λ (xs : List Tried). let copy : BufferState = record { from = c.args.from; entries = xs; front = c.args.front } in copy) mapped
