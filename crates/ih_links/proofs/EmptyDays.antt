-- Days on which all lists are empty.
use Rattle.std.proofs.Common.{◌≡◌, ℕ, zero, suc, ◌<◌, refl, List, [], replicate}
use Rattle.std.specs.Prelude.{slice_index_or}
use Rattle.std.proofs.lemmas.List.{get_or-replicate}
use Rattle.ih_links.specs.Lists.{list_of}
use Rattle.ih_links.specs.Days.{empty_lists, on_day}

-- a day that there is
pub empty-day : (heads nodes days d : ℕ) → d < days → on_day (replicate days (empty_lists heads nodes)) d ≡ empty_lists heads nodes
empty-day heads nodes days d inside = get_or-replicate days d (empty_lists heads nodes) (record { lists = []; nodes = 0 }) inside

nothing-listed : (n h : ℕ) → ◌≡◌ {A = List ℕ} (slice_index_or (replicate n []) h []) []
nothing-listed zero h = refl
nothing-listed (suc n) zero = refl
nothing-listed (suc n) (suc h) = nothing-listed n h

-- each list is empty, on a day that there is or not
pub empty-list : (heads nodes days d h : ℕ) → list_of (on_day (replicate days (empty_lists heads nodes)) d) h ≡ []
empty-list heads nodes zero d h = refl
empty-list heads nodes (suc days) zero h = nothing-listed heads h
empty-list heads nodes (suc days) (suc d) h = empty-list heads nodes days d h
