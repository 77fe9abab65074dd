use Rattle.ih_plan.proofs.PlanRanges.{empty-plan}
use Rattle.ih_nurses.proofs.nurses.Nurses.new.Goals as goal

pub returns : goal.returns
returns c = record {
  plan_is = c.in_ok-plan.ensures;
  fits = empty-plan c.args.inst.now.draft;
  here_are = c.in_ok-here.ensures;
  loads_are = c.in_ok-loads.ensures;
  counts_are = c.in_ok-counts.ensures;
}
