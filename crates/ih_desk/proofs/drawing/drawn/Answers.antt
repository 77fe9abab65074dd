use Rattle.std.proofs.Common.{rules, ◌≡◌, ◌+◌, ◌++◌, ◌∷◌, [], ◌∙◌, ap, sym, refl, arith, subst, length, length-append, map}
use Rattle.std.specs.List.{range_with_len}
use Rattle.std.proofs.lemmas.List.FromFn.{map-range_with_len_more}
use Rattle.ih_plan.specs.Draws.{move_of, stream_at}
use Rattle.ih_plan.specs.Series.{AreMoves}
use Rattle.ih_plan.proofs.Series.{moves-more}
use Rattle.ih_desk.proofs.drawing.drawn.Goals as goal

pub loop-place-init : goal.loop-place-init
loop-place-init g c = record {
  len = ap length c.of-attempt.ensures;
  inside = subst (AreMoves c.args.inst.now.draft) (sym c.of-attempt.ensures) (c.draw-first.ensures.inside, tt);
  drawn = λ seed w i from.
      let one = c.draw-first.ensures.numbered seed w i from in
      (c.of-attempt.ensures ∙ ap (λ m. m ∷ []) one.0, one.1);
}

pub loop-place-preserved : goal.loop-place-preserved
loop-place-preserved g c =
    let before = c.loop-place.invariant in
    let ms = g.A.Attempted.moves c.loop-place.attempt in
    let len = before.len in
    let more = length-append ms (c.draw-mv.result ∷ []) in
    let put = c.push.ensures.room (search rules) in
    let pushed = ap length put in
    record {
      len = omega (arith, len, more, pushed);
      inside = subst (AreMoves c.args.inst.now.draft) (sym put)
          (moves-more c.args.inst.now.draft ms c.draw-mv.result before.inside c.draw-mv.ensures.inside);
      drawn = λ seed w i from.
          let f = move_of c.args.inst.now.draft seed w in
          let k = c.loop-place._place in
          let one = c.draw-mv.ensures.numbered seed w (i + k) (before.drawn seed w i from).1 in
          let next : (i + k) + 1 ≡ i + (k + 1) = omega arith in (
            put
                ∙ (ap (λ xs. xs ++ c.draw-mv.result ∷ []) (before.drawn seed w i from).0
                ∙ (ap (λ m. map f (range_with_len i k) ++ m ∷ []) one.0
                ∙ sym (map-range_with_len_more f i k (i + k) refl))),
            one.1 ∙ ap (stream_at seed w) next,
          );
    }
