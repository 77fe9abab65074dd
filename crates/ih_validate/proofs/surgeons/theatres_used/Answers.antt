use Rattle.std.proofs.Common.{◌∙◌, refl, false, map}
use Rattle.std.proofs.Math.ListN.{length-replicate}
use Rattle.std.proofs.lemmas.List.{take_all}
use Rattle.std.specs.List.{list_any}
use Rattle.ih_tables.specs.Sizes.{theatre_count}
use Rattle.ih_tables.proofs.MarkLemmas.{none-marked}
use Rattle.ih_plan.specs.Costs.{is_number, theatre_of}
use Rattle.ih_validate.proofs.MarkLemmas.{count-met}
use Rattle.ih_validate.proofs.surgeons.theatres_used.Goals as goal

pub loop-p-init : goal.loop-p-init
loop-p-init c = record { len = length-replicate 64 false; each = λ t. none-marked 64 t }

pub returns-clause-count : goal.returns-clause-count
returns-clause-count c =
    c.count_marked.ensures.count
    ∙ rw c.theatres.ensures (count-met (theatre_count c.args.inst.now.draft) c.loop-p.used (λ t. list_any (λ o. is_number o t) (map (theatre_of c.args.plan.now) c.args.patients.now))
    (λ t. c.loop-p.invariant.each t ∙ rw (take_all c.loop-p.p-index c.args.patients.now c.loop-p-test.false) refl))
