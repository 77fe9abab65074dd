-- What one more number makes of the lines of events.
use Rattle.std.proofs.Common.{◌≡◌, ◌∙◌, ℕ, ◌+◌, refl, sym, ap, add-one, append_assoc, Bool, true, false, List, [], ◌∷◌, ◌++◌}
use Rattle.std.specs.Prelude.{if◌then◌else◌}
use Rattle.std.specs.List.{flat_map}
use Rattle.std.proofs.lemmas.List.{append-nil}
use Rattle.std.proofs.lemmas.List.Concat.{flat_map-append}
use Rattle.ih_plan.specs.Sums.{which_below}
use Rattle.ih_sheet.proofs.RowSteps.{rows-more, rows-zero}

pub events-zero : {A : Type 0} (f : ℕ → List A) (p : ℕ → Bool) → flat_map f (which_below 0 p) ≡ []
unfolding which_below
events-zero f p = refl

pub events-more : {A : Type 0} (f : ℕ → List A) (n : ℕ) (p : ℕ → Bool)
    → flat_map f (which_below (n + 1) p) ≡ (if p n then flat_map f (which_below n p) ++ f n else flat_map f (which_below n p))
unfolding which_below
events-more f n p = rw add-one (by_case (p n))
  where
    by_case : (b : Bool) → flat_map f (if b then which_below n p ++ n ∷ [] else which_below n p) ≡ (if b then flat_map f (which_below n p) ++ f n else flat_map f (which_below n p))
    by_case true = rw (flat_map-append f (which_below n p) (n ∷ []), append-nil (f n)) refl
    by_case false = refl

-- what stands before, between and behind makes one text
pub text-closed : {A B : Type 0} (f : A → List B) (before between behind : List A) → flat_map f (before ++ between) ++ flat_map f behind ≡ flat_map f (before ++ (between ++ behind))
text-closed f before between behind =
    sym (flat_map-append f (before ++ between) behind) ∙ ap (flat_map f) (append_assoc before between behind)

-- what loops over events need
pub ruleset calendar_steps = (rows-zero, rows-more, events-zero, events-more, flat_map-append, append-nil, append_assoc)
