-- Lists in room that is idle past their end, with one more.
use Rattle.std.proofs.Common.{◌≡◌, ℕ, zero, suc, ◌+◌, ◌-◌, ◌<◌, refl, arith, ap, ◌∙◌, subst, List, [], ◌∷◌, drop}
use Rattle.std.specs.Prelude.{slice_set, replicate}
use Rattle.std.proofs.lemmas.List.{length-set}
use Rattle.ih_plan.specs.declared.moves.Move.{Move}
use Rattle.ih_plan.specs.declared.moves.Move.TheVariants.{Idle}
use Rattle.ih_moves.specs.declared.chains.Chain.TheInside.{Inside}
use Rattle.ih_moves.specs.Chains.{IsPadded}

drop-set : {X : Type 0} (xs : List X) (n : ℕ) (x : X) → drop (suc n) (slice_set xs n x) ≡ drop (suc n) xs
drop-set [] n x = refl
drop-set (y ∷ ys) zero x = refl
drop-set (y ∷ ys) (suc n) x = drop-set ys n x

drop-more : {X : Type 0} (xs : List X) (n k : ℕ) (x : X)
    → drop n xs ≡ replicate (suc k) x → drop (suc n) xs ≡ replicate k x
drop-more [] zero k x h = absurd (let no : [] ≡ x ∷ replicate k x = h in cc)
drop-more [] (suc n) k x h = absurd (let no : [] ≡ x ∷ replicate k x = h in cc)
drop-more (y ∷ ys) zero k x h = let e : y ∷ ys ≡ x ∷ replicate k x = h in cc
drop-more (y ∷ ys) (suc n) k x h = drop-more ys n k x h

pub padded-push : (c : Inside) (m : Move) → IsPadded c → c.len < 8
    → IsPadded (record { moves = slice_set c.moves c.len m; len = c.len + 1 })
padded-push c m h short = record {
  short = omega arith;
  room = length-set c.moves c.len m ∙ h.room;
  rest =
      let next : suc c.len ≡ c.len + 1 = omega arith in
      let one : 8 - c.len ≡ suc (8 - (c.len + 1)) = omega arith in
      let before : drop c.len c.moves ≡ replicate (suc (8 - (c.len + 1))) Idle =
      h.rest ∙ ap (λ k. replicate k Idle) one in
      subst (λ k. drop k (slice_set c.moves c.len m) ≡ replicate (8 - (c.len + 1)) Idle) next
      (drop-set c.moves c.len m ∙ drop-more c.moves c.len (8 - (c.len + 1)) Idle before);
}
