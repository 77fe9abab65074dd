use Rattle.std.proofs.Common.{ap, subst, sym, List, [], Option, ℕ}
use Rattle.std.specs.Prelude.{option_map, unwrap_or}
use Rattle.std.specs.Borrow.{Bor}
use Rattle.std.proofs.lemmas.Result.{IfErr-weaker}
use Rattle.ih_plan.specs.Timetable.{IsPlanOf}
use Rattle.ih_plan.proofs.PlanRanges.{empty-plan}
use Rattle.ih_inputs.specs.declared.error.InputRole.TheVariants.{Solution}
use Rattle.ih_inputs.specs.Reading.{files_of}
use Rattle.ih_inputs.proofs.Causes.{plan-cause}
use Rattle.ih_inputs.proofs.Unread.{plan_unread}
use Rattle.ih_inputs.proofs.reading.read_first_plan.Goals as goal

pub returns-in-Some-clause-unread : goal.returns-in-Some-clause-unread
returns-in-Some-clause-unread g c =
    IfErr-weaker c.read_plan.result _ _
    (plan_unread (g.S.Shelf.names c.args.shelf.now) (files_of c.args.names.now) c.args.inst.now.draft c.in-Some.name.now
    (record { instance = c.requires; named = ap (option_map (λ (t : Bor (List ℕ)). t.now)) c.in-Some.is }))
    c.read_plan.ensures.unread

pub returns-in-Ok-clause-plan : goal.returns-in-Ok-clause-plan
returns-in-Ok-clause-plan g c = subst (IsPlanOf c.args.inst.now.draft) (sym c.in-Ok.ensures) (empty-plan c.args.inst.now.draft)

pub returns-in-Some-clause-cause : goal.returns-in-Some-clause-cause
returns-in-Some-clause-cause g c =
    plan-cause g.S.Shelf (files_of c.args.names.now) _ _ Solution c.in-Some.name.now
    (ap (λ (o : Option (Bor (List ℕ))). unwrap_or (option_map (λ (t : Bor (List ℕ)). t.now) o) []) c.in-Some.is) _ _ c.read_plan.result
    c.read_plan.ensures.unread c.read_plan.ensures.cause
