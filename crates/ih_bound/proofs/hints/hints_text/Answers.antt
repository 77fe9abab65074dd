use Rattle.std.proofs.Common.{◌≡◌, ◌∙◌, ℕ, List, ap, sym, subst, IfOk}
use Rattle.std.proofs.lemmas.Result.{IfOk-weaker}
use Rattle.ih_bound.specs.declared.outcomes.Outcome.{Outcome}
use Rattle.ih_bound.specs.Hints.{AreGreatest, HasPrices, IsHinted, hints_text, place_count, points_at}
use Rattle.ih_bound.specs.Tariffs.{tariff_of}
use Rattle.ih_bound.proofs.Telling.{told-inside, told-prices}
use Rattle.ih_bound.proofs.hints.hints_text.Goals as goal

pub lines-requires : goal.lines-requires
lines-requires c =
    let I = c.args.inst.now.draft in
    let f = c.args.found.now in
    let points = c.in_ok-points-in-AtLeast.points.items in
    let places = c.in_ok-places-in-AtLeast.places.items in
    let greatest = subst (λ (xs : List ℕ). AreGreatest xs places) c.as_slice.ensures.value c.in_ok-places-in-AtLeast.ensures in
    rw c.as_slice-in-AtLeast-2.ensures.value
    (told-inside (place_count I) (points_at I f.rates (tariff_of I f.rates f.prices)) points places c.in_ok-points-in-AtLeast.ensures greatest)

pub returns-in_ok-places-in-AtLeast : goal.returns-in_ok-places-in-AtLeast
returns-in_ok-places-in-AtLeast c =
    let I = c.args.inst.now.draft in
    let f = c.args.found.now in
    let points = c.in_ok-points-in-AtLeast.points.items in
    let places = c.in_ok-places-in-AtLeast.places.items in
    let greatest = subst (λ (xs : List ℕ). AreGreatest xs places) c.as_slice.ensures.value c.in_ok-places-in-AtLeast.ensures in
    let read = ap (λ (xs : List ℕ). hints_text I xs c.as_slice-in-AtLeast-2.result.now) c.as_slice-in-AtLeast.ensures.value
    ∙ ap (λ (xs : List ℕ). hints_text I points xs) c.as_slice-in-AtLeast-2.ensures.value in
    subst (λ (o : Outcome). HasPrices I f o → IfOk c.lines.result (λ v. IsHinted I o v.items)) (sym c.in-AtLeast.is)
    (λ priced. IfOk-weaker c.lines.result _ _ (λ v said. told-prices I f _ points places v.items priced c.in_ok-points-in-AtLeast.ensures greatest (said ∙ read)) c.lines.ensures)
    c.requires
