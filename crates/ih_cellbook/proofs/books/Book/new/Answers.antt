use Rattle.std.proofs.Common.{◌∙◌, ap, sym, subst, ◌^◌}
use Rattle.std.specs.Prelude.{replicate}
use Rattle.ih_tables.specs.Bills.{IsWithin}
use Rattle.ih_plan.proofs.BillBounds.{bill-within}
use Rattle.ih_plan.specs.Cells.{count_in}
use Rattle.ih_cellbook.specs.Keeping.{base_with}
use Rattle.ih_cellbook.proofs.BookKeeping.{kept-none}
use Rattle.ih_cellbook.proofs.books.Book.new.Goals as goal

pub with_place-requires : goal.with_place-requires
with_place-requires g c = subst (IsWithin (10 ^ 11)) (sym c.requires.first) (bill-within c.args.inst.now.draft c.args.start.now c.args.inst.now.valid c.requires.start)

pub invariant_of-result : goal.invariant_of-result
invariant_of-result g c = rw (c.in_ok-new.ensures.ok, c.in_ok-entries.ensures.none) (
  kept-none (base_with c.args.inst.now.draft c.args.start.now c.args.options.now c.args.freeze) _ _ _ _
      (record { start = c.requires.start; lawful = c.requires.lawful })
      (c.in_ok-counters.ensures.items_if_clones_equal (λ y e. e) ∙ ap (λ n. replicate n 0) (c.count.ensures.count ∙ ap count_in c.of.ensures))
      (c.in_ok-again.ensures.items_if_clones_equal (λ y e. e))
      c.requires.first
      c.with_place.ensures,
  c.in_ok-entries.ensures.room,
  c.requires.retries,
)
