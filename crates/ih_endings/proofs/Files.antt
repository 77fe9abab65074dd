-- What is told of two states of a shelf.
use Rattle.std.proofs.Common.{◌≡◌, ℕ, sym, ap, ◌∙◌, arith, inr, List, length, Option, Some, None}
use Rattle.std.proofs.lemmas.List.{take_all}
use Rattle.ih_shelf.specs.Outside.{Names, IfTold, PartOr, IsWritten, MayBeWritten}
use Rattle.ih_endings.specs.Ends.{Unchanged}

pub told-weaker : {X : Type 0} (P Q : X → X → Type 0) (old new : Option X) → ((x y : X) → P x y → Q x y) → IfTold P old new → IfTold Q old new
told-weaker P Q None new f h = tt
told-weaker P Q (Some x) None f h = h
told-weaker P Q (Some x) (Some y) f h = f x y h

pub told-then : {X : Type 0} (P Q R : X → X → Type 0) (old mid new : Option X) → ((x y z : X) → P x y → Q y z → R x z)
    → IfTold P old mid → IfTold Q mid new → IfTold R old new
told-then P Q R None mid new f h k = tt
told-then P Q R (Some x) None new f h k = absurd h
told-then P Q R (Some x) (Some y) None f h k = k
told-then P Q R (Some x) (Some y) (Some z) f h k = f x y z h k

pub whole-text : (text : List ℕ) (old new : Option (List ℕ)) → new ≡ Some text → PartOr text old new
whole-text text old new h = inr (length text, h ∙ ap (λ t. Some t) (sym (take_all (length text) text (omega arith))))

-- what is written whole is begun
pub begun : (name bytes : List ℕ) (old new : Option Names) → IfTold (IsWritten name bytes) old new → IfTold (MayBeWritten name bytes) old new
begun name bytes old new h = told-weaker (IsWritten name bytes) (MayBeWritten name bytes) old new
    (λ x y w. record { part = whole-text bytes (x name) (y name) w.whole; others = w.others }) h

-- nothing changes where the names are those that were there
pub told-same : (old new : Option Names) → new ≡ old → IfTold Unchanged old new
told-same None new e = tt
told-same (Some old) None e = absurd (let clash : None ≡ Some old = e in cc)
told-same (Some old) (Some new) e = λ n. let same : new ≡ old = cc in cc
