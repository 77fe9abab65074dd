-- What is told of prices.
use Rattle.std.proofs.Common.{◌≡◌, ◌∙◌, ℕ, zero, suc, ◌+◌, ◌<◌, ◌≤◌, arith, add-one, ap, subst, refl, List, [], ◌∷◌, ◌++◌, length, All}
use Rattle.std.specs.Prelude.{slice_index}
use Rattle.std.proofs.lemmas.List.{length-append}
use Rattle.std.proofs.lemmas.List.Elements.{All-weaker}
use Rattle.ih_tables.specs.declared.drafts.Draft.{Draft}
use Rattle.ih_bound.specs.declared.outcomes.Priced.{Priced}
use Rattle.ih_bound.specs.Tariffs.{tariff_of}
use Rattle.ih_bound.specs.Hints.{AreGreatest, IsOfPrices, TellsPrices, all_points, hints_text, list_below, place_count}

pub list_below-more : (n : ℕ) (f : ℕ → ℕ) → list_below (n + 1) f ≡ list_below n f ++ f n ∷ []
unfolding list_below
list_below-more n f = rw add-one refl

pub length-list_below : (n : ℕ) (f : ℕ → ℕ) → length (list_below n f) ≡ n
unfolding list_below
length-list_below zero f = refl
length-list_below (suc n) f = omega (arith, length-append (list_below n f) (f n ∷ []), length-list_below n f)

pub told-inside : (n : ℕ) (f : ℕ → ℕ) (points places : List ℕ) → points ≡ list_below n f → AreGreatest points places → All (λ p. p < n) places
told-inside n f points places is greatest =
    let len : length points ≡ n = ap length is ∙ length-list_below n f in
    All-weaker (λ p. (p < length points) × (1 ≤ slice_index points p)) (λ p. p < n) (λ p h. omega (arith, h.0, len)) places greatest.each

pub told-prices : (I : Draft) (f : Priced) (value : ℕ) (points places text : List ℕ) → IsOfPrices I f value
    → points ≡ all_points I f.rates (tariff_of I f.rates f.prices) → AreGreatest points places → text ≡ hints_text I points places
    → TellsPrices I value text
told-prices I f value points places text priced is greatest said = record {
  rates = f.rates;
  tariff = tariff_of I f.rates f.prices;
  shown = f.shown;
  places = places;
  weights = priced.weights;
  shows = priced.shows;
  printed = priced.rounded;
  greatest = subst (λ (xs : List ℕ). AreGreatest xs places) is greatest;
  said = said ∙ ap (λ xs. hints_text I xs places) is;
}
