use Rattle.std.proofs.Common.{◌≡◌, ◌∙◌, ◌++◌, ap, arith, take}
use Rattle.std.specs.Prelude.{flat_map}
use Rattle.std.proofs.lemmas.List.{take_all}
use Rattle.ih_bound.specs.Hints.{hint_line, hints_text, last_line}
use Rattle.ih_bound.proofs.hints.lines.Goals as goal

pub returns : goal.returns
unfolding hints_text
returns c =
    let places = c.args.places.now in
    let ended = c.loop-place-test.false in
    let all : take c.loop-place.place-index places ≡ places = take_all c.loop-place.place-index places (omega (arith, ended)) in
    c.in_ok-put_last.ensures ∙ ap (λ xs. xs ++ last_line places) (c.loop-place.invariant ∙ ap (flat_map (hint_line c.args.inst.now.draft c.args.points.now)) all)
