use Rattle.std.proofs.Common.{◌∙◌, refl}
use Rattle.ih_nurses.proofs.StartLemmas.{counts-none}
use Rattle.ih_nurses.proofs.start.no_counts.Goals as goal

pub returns : goal.returns
returns c =
    counts-none c.args.inst.now.draft c.in_ok-counts.counts.items
    (c.in_ok-counts.ensures.items_if_clones_equal (λ y e. e) ∙ rw (c.persons.ensures, c.nurses.ensures) refl)
