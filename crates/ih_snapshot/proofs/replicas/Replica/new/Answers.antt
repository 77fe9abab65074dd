use Rattle.std.proofs.Common.{◌∙◌, refl, ap}
use Rattle.std.specs.Prelude.{replicate}
use Rattle.ih_plan.specs.Cells.{count_in}
use Rattle.ih_cellbook.specs.Keeping.{base_with}
use Rattle.ih_cellbook.specs.ReadsState.{ReadsState}
use Rattle.ih_costs.specs.LedgersState.{LedgersState}
use Rattle.ih_snapshot.proofs.Empty.{stands-empty}
use Rattle.ih_snapshot.proofs.replicas.Replica.new.Goals as goal

pub returns-clause-replica : goal.returns-clause-replica
returns-clause-replica g c =
    let I = c.args.inst.now.draft in
    stands-empty (base_with I c.args.start.now c.args.options.now c.args.freeze) _
    (record { start = c.requires.start; lawful = c.requires.lawful })
    (ap (λ P. base_with I P c.args.options.now c.args.freeze) c.in_ok-try_clone.ensures)
    refl
    (ap (λ (s : LedgersState). s.plan) c.in_ok-new.ensures)
    (c.in_ok-vec.ensures.items_if_clones_equal (λ y e. e) ∙ ap (λ n. replicate n 0) (c.count-cells.ensures.count ∙ ap count_in c.of-numbering.ensures))
    c.in_ok-blank.ensures.seen
    (ap (λ (v : ReadsState). v.pairs) c.in_ok-blank.ensures.reads)
