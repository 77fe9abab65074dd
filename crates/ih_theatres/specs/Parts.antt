-- The parts of the bill that theatres and surgeons have.
use Rattle.std.specs.Prelude.{ℕ, [], ◌∷◌}
use Rattle.ih_plan.specs.BillOf.{Counts}

-- minutes above a theatre's availability, and 1 where the theatre is used
abbrev pub theatre_part : ℕ → ℕ → Counts
theatre_part over used = record {
  v = 0 ∷ 0 ∷ 0 ∷ over ∷ 0 ∷ 0 ∷ 0 ∷ 0 ∷ 0 ∷ [];
  s = 0 ∷ 0 ∷ 0 ∷ 0 ∷ used ∷ 0 ∷ 0 ∷ 0 ∷ [];
}

-- minutes above a surgeon's maximum, and transfers between theatres
abbrev pub surgeon_part : ℕ → ℕ → Counts
surgeon_part over transfers = record {
  v = 0 ∷ 0 ∷ over ∷ 0 ∷ 0 ∷ 0 ∷ 0 ∷ 0 ∷ 0 ∷ [];
  s = 0 ∷ 0 ∷ 0 ∷ 0 ∷ 0 ∷ transfers ∷ 0 ∷ 0 ∷ [];
}
