use Rattle.std.proofs.Common.{◌∙◌, ◌&&◌, not, ap, sym, [], refl, ℕ, List}
use Rattle.std.specs.Borrow.{Bor}
use Rattle.ih_arguments.proofs.Distinct.{differ_step}
use Rattle.ih_arguments.proofs.file_names.+all_differ.Goals as goal

pub returns-then-not-is_among : goal.returns-then-not-is_among
returns-then-not-is_among t c =
    let none : Bor (List ℕ) = record { ref_ptr = (0, 0); now = [] } in
    ap (λ a. not a && c.all_differ.result) (sym c.if-not-is_among.true)
    ∙ differ_step c.args.names.now none c.is_among.result c.all_differ.result c.in-len1-up.len_at_least c.is_among.ensures c.all_differ.ensures

pub returns-else-not-is_among : goal.returns-else-not-is_among
returns-else-not-is_among t c =
    let none : Bor (List ℕ) = record { ref_ptr = (0, 0); now = [] } in
    let e = differ_step c.args.names.now none c.is_among.result _ c.in-len1-up.len_at_least c.is_among.ensures refl in
    rw c.if-not-is_among.false (rw c.if-not-is_among.false at e)
