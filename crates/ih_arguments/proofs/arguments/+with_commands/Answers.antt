use Rattle.std.proofs.Common.{arith, ◌≡◌, ◌∙◌, ap, refl, subst, sym, List, IsTrue}
use Rattle.std.specs.List.{list_all}
use Rattle.std.proofs.lemmas.Result.{IfOk-weaker}
use Rattle.clap.specs.Words.{app_of}
use Rattle.ih_arguments.specs.Arguments.{is_plain_by, with_commands}
use Rattle.ih_arguments.specs.declared.arguments.Description.{Description}
use Rattle.ih_arguments.proofs.DescriptionRules.{adds_command, first-plain, others-plain}
use Rattle.ih_arguments.proofs.arguments.+with_commands.Goals as goal

pub with_commands-requires : goal.with_commands-requires
with_commands-requires t c =
    let all = subst (λ (ds : List Description). IsTrue (list_all is_plain_by ds)) c.in-Some.ensures.cases.0 c.requires.plain in
    (omega (arith, c.in-Some.ensures.cases.1), others-plain c.in-Some.first.now c.in-Some.others.now all)

pub returns-in_ok-program-in-Some : goal.returns-in_ok-program-in-Some
returns-in_ok-program-in-Some t c =
    let whole = c.in-Some.ensures.cases.0 in
    let plain = first-plain c.in-Some.first.now c.in-Some.others.now (subst (λ (ds : List Description). IsTrue (list_all is_plain_by ds)) whole c.requires.plain) in
    let added = adds_command refl c.in_ok-command-in-Some.ensures plain c.in_ok-program-in-Some.ensures in
    IfOk-weaker c.with_commands.result _ (λ r. app_of r ≡ with_commands (app_of c.args.program) c.args.commands.now)
    (λ r h. h ∙ (ap (λ a. with_commands a c.in-Some.others.now) added ∙ ap (with_commands (app_of c.args.program)) (sym whole))) c.with_commands.ensures
