use Rattle.std.proofs.Common.{◌≡◌, ◌∙◌, ◌++◌, ap, arith, length, take}
use Rattle.std.specs.Prelude.{flat_map}
use Rattle.std.proofs.lemmas.List.{take_all}
use Rattle.ih_advise.specs.Texts.{advice_line, advice_text, last_line}
use Rattle.ih_advise.proofs.texts.advice_text.Goals as goal

pub returns : goal.returns
unfolding advice_text
returns c =
    let list = c.args.list.now in
    let ended = c.loop-a-test.false in
    let all : take c.loop-a.a-index list ≡ list = take_all c.loop-a.a-index list (omega (arith, ended)) in
    c.in_ok-put_last.ensures ∙ ap (λ xs. xs ++ last_line (length list)) (c.loop-a.invariant ∙ ap (flat_map advice_line) all)
