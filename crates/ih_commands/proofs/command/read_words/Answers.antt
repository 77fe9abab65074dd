use Rattle.std.proofs.Common.{◌≡◌, ◌∙◌, ap, subst, sym, List, Option, Some, None, Result, Ok, Err, IfOk, IfErr, map, string_bytes}
use Rattle.std.specs.Prelude.{◌≢◌}
use Rattle.std.specs.Option.{option_copied}
use Rattle.ih_commands.specs.Below.Arguments.{App, IsExplained, IsRead, NoCall, OutOfMemory, Text}
use Rattle.ih_arguments.proofs.FirstWords.{by_name, no_name}
use Rattle.ih_commands.specs.Calls.{Call, app_named, call_named, call_of, command_call}
use Rattle.ih_commands.proofs.FirstWord.{explained_by_all, explained_by_name}
use Rattle.ih_commands.proofs.command.read_words.Goals as goal

pub returns-in_default-clause-none : goal.returns-in_default-clause-none
unfolding call_of
returns-in_default-clause-none c = λ other. no_name call_named _ (sym c.first.ensures.value ∙ ap option_copied c.in_default.is)

pub returns-in_default-clause-explained : goal.returns-in_default-clause-explained
returns-in_default-clause-explained c =
    rw (explained_by_all _ (sym c.first.ensures.value ∙ ap option_copied c.in_default.is)) c.explained_commands.ensures

answered : {A B : Type 0} (call : B → A) (asked : Option A) (app : App) (words : List Text) (r : Result B NoCall) → IsRead call asked app words r
    → IfOk r (λ x. asked ≡ Some (call x)) × IfErr r (λ e. e ≢ OutOfMemory → asked ≡ None) × IfErr r (IsExplained app words)
answered call asked app words (Ok x) is = (is, tt, tt)
answered call asked app words (Err e) is = (tt, is.0, is.1)

pub returns : goal.returns
unfolding call_of
returns c =
    let first = sym c.first.ensures.value ∙ ap option_copied c.in-Some.is in
    let named = by_name call_named c.args.words.now first c.as_str.ensures.value in
    let app = app_named c.as_str.result.now in
    let words = map string_bytes c.args.words.now in
    let all = answered command_call (call_of words) app words c.read_named.result
    (subst (λ (o : Option Call). IsRead command_call o app words c.read_named.result) (sym named) c.read_named.ensures.read) in
    record {
      ok = all.0;
      lawful = c.read_named.ensures.lawful;
      none = all.1;
      explained = rw (explained_by_name c.args.words.now first c.as_str.ensures.value) all.2;
    }
