use Rattle.std.proofs.Common.{◌≡◌, ◌∙◌, ◌++◌, ap, arith, take}
use Rattle.std.specs.Prelude.{flat_map}
use Rattle.std.proofs.lemmas.List.{take_all}
use Rattle.ih_why.specs.Shortages.{dear_line, together_line, together_text}
use Rattle.ih_why.proofs.shortages.together_text.Goals as goal

pub returns : goal.returns
unfolding together_text
returns c =
    let list = c.args.list.now in
    let ended = c.loop-a-test.false in
    let all : take c.loop-a.a-index list ≡ list = take_all c.loop-a.a-index list (omega (arith, ended)) in
    rw c.into_bytes.ensures.value (c.loop-a.invariant ∙ ap (λ xs. together_line ++ flat_map (dear_line c.args.inst.now.draft) xs) all)
