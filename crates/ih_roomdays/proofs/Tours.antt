-- A walk over persons, and the summary of those that it has told.
use Rattle.std.proofs.Common.{ℕ, ◌≤◌, arith, ap, List, Option, length, length-append}
use Rattle.ih_links.proofs.Walks.{rest_from, IsWalkWith}
use Rattle.ih_roomdays.specs.declared.occupancies.Crowd.{Crowd}
use Rattle.ih_roomdays.specs.declared.profiles.Profiles.{Profiles}
use Rattle.ih_roomdays.specs.Occupancy.{IsCrowd, IsSmall}
use Rattle.ih_roomdays.specs.Profiles.{AreInRange, most_persons}
use Rattle.ih_roomdays.proofs.Tallies.{occupancy-small}

-- The walk is at this person, and the crowd is that of the persons that it has told.
abbrev pub IsTour : Profiles → ℕ → List ℕ → Option ℕ → Crowd → Type 0
IsTour p persons xs at c = IsWalkWith persons xs at (λ told. IsCrowd p told c)

-- few are told where the list is short
pub tour-small : {n : ℕ} {p : Profiles} {persons : ℕ} {xs : List ℕ} {at : Option ℕ} {c : Crowd} (tour : IsTour p persons xs at c) → AreInRange n p → length xs ≤ most_persons → IsSmall c.occupancy
tour-small {n} {p} {persons} {xs} {at} {c} tour range few =
    let whole = length-append tour.told (rest_from at xs) in
    let all = ap length tour.walk.whole in
    occupancy-small n p tour.told c.occupancy range tour.so_far.occupancy (omega arith)
