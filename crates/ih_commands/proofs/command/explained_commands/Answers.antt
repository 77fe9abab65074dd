use Rattle.std.proofs.Common.{◌≡◌, ◌∙◌, ap, map, string_bytes, subst, sym, true}
use Rattle.ih_commands.specs.Below.Arguments.{App, HasKind, app_of, fault_of, has_no_fault, is_simple_and_free}
use Rattle.ih_arguments.proofs.Faults.{no_fault_at}
use Rattle.ih_arguments.proofs.WordsRead.{explained-as, refused-as}
use Rattle.ih_commands.specs.Calls.{program_app}
use Rattle.ih_commands.proofs.command.explained_commands.Goals as goal

pub returns-in-Ok-try_get_matches_from : goal.returns-in-Ok-try_get_matches_from
returns-in-Ok-try_get_matches_from c =
    let is : app_of c.in-Ok.program ≡ program_app = c.in-Ok.ensures.app in
    let simple = subst (λ (a : App). is_simple_and_free a ≡ true) (sym is) c.in-Ok.ensures.simple in
    refused-as program_app _ c.refused.result c.refused.ensures
    (ap (λ (a : App). has_no_fault a (map string_bytes c.args.words.now)) (sym is) ∙ no_fault_at (app_of c.in-Ok.program) _ (c.in-Ok-try_get_matches_from.ensures.kinds simple))

pub returns : goal.returns
returns c =
    let is : app_of c.in-Ok.program ≡ program_app = c.in-Ok.ensures.app in
    let simple = subst (λ (a : App). is_simple_and_free a ≡ true) (sym is) c.in-Ok.ensures.simple in
    explained-as program_app _ c.in-Err.error c.explained.result
    (subst (λ (a : App). HasKind (fault_of a (map string_bytes c.args.words.now)) c.in-Err.error) is (c.in-Err.ensures.kinds simple)) c.explained.ensures
