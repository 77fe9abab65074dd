use Rattle.std.proofs.Common.{◌≡◌, ◌∙◌, ap, subst, sym, Option, Some, None, Result, Ok, Err, IfOk, IfErr, map, string_bytes}
use Rattle.std.specs.Option.{option_copied}
use Rattle.ih_arguments.proofs.FirstWords.{by_name, no_name}
use Rattle.ih_words.specs.SearchOptions.{IsAnswer}
use Rattle.ih_words.specs.Words.{Call, call_named, call_of, command_call}
use Rattle.ih_words.specs.declared.error.WordsError.{WordsError}
use Rattle.ih_words.specs.declared.error.WordsError.TheVariants.{Unlawful}
use Rattle.ih_words.proofs.command.read_words.Goals as goal

pub returns-in_default-clause-unlawful : goal.returns-in_default-clause-unlawful
unfolding call_of
returns-in_default-clause-unlawful c = λ e. no_name call_named _ (sym c.first.ensures.value ∙ ap option_copied c.in_default.is)

answered : {A B : Type 0} (call : B → A) (asked : Option A) (r : Result B WordsError) → IsAnswer call asked r
    → IfOk r (λ x. asked ≡ Some (call x)) × IfErr r (λ e. e ≡ Unlawful → asked ≡ None)
answered call asked (Ok x) is = (is, tt)
answered call asked (Err e) is = (tt, is)

pub returns : goal.returns
unfolding call_of
returns c =
    let named = by_name call_named c.args.words.now (sym c.first.ensures.value ∙ ap option_copied c.in-Some.is) c.as_str.ensures.value in
    let both = answered command_call (call_of (map string_bytes c.args.words.now)) c.read_named.result
    (subst (λ (o : Option Call). IsAnswer command_call o c.read_named.result) (sym named) c.read_named.ensures.read) in
    record { ok = both.0; lawful = c.read_named.ensures.lawful; unlawful = both.1 }
