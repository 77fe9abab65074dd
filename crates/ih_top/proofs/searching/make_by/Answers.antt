use Rattle.std.proofs.Common.{subst, sym}
use Rattle.std.specs.Prelude.{IfOk}
use Rattle.ih_top.specs.Below.Searches.{base_given}
use Rattle.ih_top.specs.declared.searching.Method.{Method}
use Rattle.ih_top.specs.declared.searching.Method.TheVariants.{Chains}
use Rattle.ih_top.specs.Methods.{IsLawfulFor, IsMade}
use Rattle.ih_top.proofs.FormOutputs.{chain-result}
use Rattle.ih_top.proofs.searching.make_by.Goals as goal

pub returns-in_ok-run-in-Chains : goal.returns-in_ok-run-in-Chains
returns-in_ok-run-in-Chains g c =
    let given = c.args.given.now in
    let each = c.in-Chains.each in
    let lawful : IsLawfulFor (Chains each) given.options given.freeze =
    subst (λ (m : Method). IsLawfulFor m given.options given.freeze) c.in-Chains.is c.requires.method in
    subst (λ (m : Method). IfOk c.output_of_run.result (IsMade m (base_given given))) (sym c.in-Chains.is)
    (chain-result given.inst.now.draft given.start.now given.options given.freeze each c.in_ok-run-in-Chains.run' c.output_of_run.result
    c.requires.base.start c.requires.base.lawful c.seed_of-seed.ensures.small lawful.1 c.in_ok-run-in-Chains.ensures
    c.output_of_run.ensures.journal c.output_of_run.ensures.best)
