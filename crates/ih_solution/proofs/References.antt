-- What a look-up found, as the number of a name.
use Rattle.std.proofs.Common.{◌≡◌, ℕ, ◌<◌, ◌≤◌, List, length, map, refl, ap, sym, ◌∙◌, Option, Some, None, arith}
use Rattle.std.specs.Prelude.{option_map, Ok, Err, IfOk}
use Rattle.std.proofs.lemmas.List.{length-map}
use Rattle.std.proofs.lemmas.List.Elements.{All-push}
use Rattle.ih_tables.specs.declared.refusals.Place.{Place}
use Rattle.ih_tables.specs.declared.refusals.Fault.{Fault}
use Rattle.ih_tables.specs.Lookups.{number_in}
use Rattle.ih_tables.proofs.IndexLemmas.{number_in-below}
use Rattle.ih_format.proofs.Items.{reading}
use Rattle.ih_format.specs.Checks.{or_else}
use Rattle.ih_format.specs.Gives.{seen}

pub seen-known : {A B : Type 0} (f : A → B) (fault : Fault) (p : Place) (o : Option A) → seen f (or_else fault p o) ≡ or_else fault p (option_map f o)
seen-known f fault p None = refl
seen-known f fault p (Some x) = refl

-- the number of a name is one of the names'
pub found-inside : {A X : Type 0} (f : A → ℕ) (name : X → List ℕ) (xs : List X) (s : List ℕ) (fault : Fault) (p : Place) (o : Option A) (x : A)
    → option_map f o ≡ number_in (map name xs) s → or_else fault p o ≡ Ok x → f x < length xs
found-inside f name xs s fault p None x e h = absurd (let no : Err (record { fault = fault; at = p }) ≡ Ok x = h in cc)
found-inside {A} f name xs s fault p (Some y) x e h =
    let same : y ≡ x = (let g : Ok y ≡ Ok x = h in cc) in
    let below = number_in-below (map name xs) s (f x) (sym e ∙ ap (λ (z : A). Some (f z)) same) in
    omega (arith, below, length-map xs name)

-- the same of plain names, of which there are few
pub few-found : (names : List (List ℕ)) (s : List ℕ) (n : ℕ) (fault : Fault) (p : Place) (o : Option ℕ)
    → o ≡ number_in names s → length names ≤ n → IfOk (or_else fault p o) (λ x. x < n)
few-found names s n fault p None e most = tt
few-found names s n fault p (Some x) e most =
    let below = number_in-below names s x (sym e) in
    omega (arith, below, most)

pub ruleset finding = (seen-known, found-inside)

pub ruleset reading_all = (reading, All-push)
