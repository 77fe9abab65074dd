-- How many there are of each kind in the ward of two patients.
use Rattle.std.specs.Prelude.{◌≡◌}
use Rattle.ih_tables.specs.declared.drafts.Draft.{Draft}
use Rattle.ih_tables.specs.Sizes.{patient_count, room_count, theatre_count, surgeon_count, nurse_count}

pub record IsOfTwo (I : Draft) : Type 0 where
  pub days : I.days ≡ 2
  pub patients : patient_count I ≡ 2
  pub rooms : room_count I ≡ 2
  pub theatres : theatre_count I ≡ 2
  pub nurses : nurse_count I ≡ 2
  pub surgeons : surgeon_count I ≡ 1
