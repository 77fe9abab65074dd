-- Words, draws, numbers of cells, prices and footprints of the examples, computed.
use Rattle.std.proofs.Common.{◌≡◌, refl, pos, negsuc, Some, [], ◌∷◌, ℕ, map}
use Rattle.std.specs.Prelude.{⊤}
use Rattle.rand_core.specs.Stream.{fill_bytes}
use Rattle.rand_core.specs.Steps.{stream_of, word_bytes, u32_at}
use Rattle.ih_tables.specs.Bills.{score}
use Rattle.ih_tables.specs.declared.cells.Cell.TheVariants.{Stay, RoomDay, TheatreDay, SurgeonDay, RoomShift, NurseShift, Care}
use Rattle.ih_plan.specs.declared.moves.Move.TheVariants.{Place, SetDay, Nurse, NurseRun}
use Rattle.ih_plan.specs.declared.moves.Move.{Move}
use Rattle.ih_plan.specs.Sums.{which_below}
use Rattle.ih_plan.specs.Timetable.{empty}
use Rattle.ih_plan.specs.Expand.{expand, after}
use Rattle.ih_plan.specs.Draws.{drawn, state_after, stream_state, word_at, move_of}
use Rattle.ih_tables.specs.Sizes.{sizes_of}
use Rattle.ih_plan.specs.Cells.{cell_in, cell_at, cell_count, number_in, HasParts, content_of, part_of}
use Rattle.ih_plan.specs.Footprint.{footprint, touches, writes_touch, in_placement, in_choice, looks_at}
use Rattle.ih_plan.specs.BillOf.{change_of_bill}
use Rattle.ih_plan.proofs.ExampleWards.{one_room, two_patients, first_admitted, first_admitted_with, at, bill9, weights}
use Rattle.ih_plan.proofs.BillExamples.{plan_on_literals}

unfoldable pub draws_on_literals : ⊤
unfolding drawn state_after stream_state move_of which_below fill_bytes stream_of word_bytes u32_at
draws_on_literals = tt

unfoldable pub moves_on_literals : ⊤
unfolding plan_on_literals expand cell_in footprint touches writes_touch in_placement in_choice looks_at
moves_on_literals = tt

abbrev pub nurse_run : ℕ → ℕ → ℕ → ℕ → Move
nurse_run n r d len = NurseRun (record { 0 = n }) (record { 0 = r }) (record { 0 = d }) len

abbrev pub nurse : ℕ → ℕ → ℕ → Move
nurse r k n = Nurse (record { 0 = r }) (record { 0 = k }) (record { 0 = n })

abbrev pub place : ℕ → ℕ → ℕ → ℕ → Move
place p d r t = Place (record { 0 = p }) (at d r t)

-- the generator that is seeded by 0, its first words, and those of the last seed
pub seeded_state : stream_state 0 0 ≡ 0xe220a8397b1dcdaf ∷ 0x6e789e6aa1b965f4 ∷ 0x06c45d188009454f ∷ 0xf88bb8a8724c81ec ∷ []
unfolding draws_on_literals
seeded_state = refl

pub first_words : map (word_at (stream_state 0 0)) (0 ∷ 1 ∷ 2 ∷ 3 ∷ 4 ∷ 6 ∷ 7 ∷ 8 ∷ 9 ∷ [])
    ≡ 0x53175d61490b23df ∷ 0x61da6f3dc380d507 ∷ 0x5c0fdf91ec9a7bfc ∷ 0x02eebf8c3bbe5e1a ∷ 0x7eca04ebaf4a5eea
    ∷ 0xdb7490c75ab5026e ∷ 0xd87343e6464bc959 ∷ 0x4b7da0a02389f0ff ∷ 0x1300fc58c0424c16 ∷ []
unfolding draws_on_literals
first_words = refl

pub last_seed_words : map (word_at (stream_state 18446744073709551615 0)) (0 ∷ 1 ∷ 2 ∷ 3 ∷ 4 ∷ [])
    ≡ 0x56ccf8ce948e27b2 ∷ 0xe68588432e5a5b90 ∷ 0xe3e9b5a48119ca8b ∷ 0x460f19495532ae73 ∷ 0xa7d62040ea9263e1 ∷ []
unfolding draws_on_literals
last_seed_words = refl

-- the first two draws of seed 0 on the smaller example, and on the larger one
pub first_draws : (move_of one_room 0 0 0 ≡ nurse_run 0 0 0 5) × (move_of one_room 0 0 1 ≡ nurse 0 2 0)
    × (move_of two_patients 0 0 0 ≡ nurse_run 1 0 0 5) × (move_of two_patients 0 0 1 ≡ nurse 1 5 0)
unfolding draws_on_literals
first_draws = (refl, refl, refl, refl)

-- the first draw of the last seed, whose second worker has the stream of seed 0
pub last_seed_draws : (move_of two_patients 18446744073709551615 0 0 ≡ place 0 1 1 1)
    × (move_of two_patients 18446744073709551615 1 0 ≡ nurse_run 1 0 0 5)
unfolding draws_on_literals
last_seed_draws = (refl, refl)

-- all cells of the smaller example
pub cells_of_one_room : map (cell_at one_room) (0 ∷ 1 ∷ 2 ∷ 3 ∷ 4 ∷ 5 ∷ 6 ∷ 7 ∷ [])
    ≡ RoomDay (record { 0 = 0 }) (record { 0 = 0 })
    ∷ RoomShift (record { 0 = 0 }) (record { 0 = 0 }) ∷ RoomShift (record { 0 = 0 }) (record { 0 = 1 }) ∷ RoomShift (record { 0 = 0 }) (record { 0 = 2 })
    ∷ NurseShift (record { 0 = 0 }) (record { 0 = 0 }) ∷ NurseShift (record { 0 = 0 }) (record { 0 = 1 }) ∷ NurseShift (record { 0 = 0 }) (record { 0 = 2 })
    ∷ Care (record { 0 = 0 }) ∷ []
unfolding moves_on_literals
cells_of_one_room = refl

-- where each kind of cell begins in the larger one
pub kinds_of_two_patients : map (cell_at two_patients) (0 ∷ 2 ∷ 6 ∷ 10 ∷ 12 ∷ 24 ∷ 36 ∷ [])
    ≡ Stay (record { 0 = 0 }) ∷ RoomDay (record { 0 = 0 }) (record { 0 = 0 }) ∷ TheatreDay (record { 0 = 0 }) (record { 0 = 0 })
    ∷ SurgeonDay (record { 0 = 0 }) (record { 0 = 0 }) ∷ RoomShift (record { 0 = 0 }) (record { 0 = 0 })
    ∷ NurseShift (record { 0 = 0 }) (record { 0 = 0 }) ∷ Care (record { 0 = 0 }) ∷ []
unfolding moves_on_literals
kinds_of_two_patients = refl

pub numbers : (number_in (sizes_of two_patients) (RoomShift (record { 0 = 0 }) (record { 0 = 2 })) ≡ 14)
    × (number_in (sizes_of two_patients) (NurseShift (record { 0 = 1 }) (record { 0 = 2 })) ≡ 32)
    × (number_in (sizes_of two_patients) (Care (record { 0 = 2 })) ≡ 38) × (cell_at two_patients 38 ≡ Care (record { 0 = 2 }))
    × (cell_count one_room ≡ 8) × (cell_count two_patients ≡ 39)
unfolding moves_on_literals
numbers = (refl, refl, refl, refl, refl, refl)

-- The second patient enters the first one's room, in the other theatre.
abbrev pub place_1 : Move
place_1 = place 1 0 0 1

pub price_place : change_of_bill two_patients first_admitted (after two_patients first_admitted place_1) ≡ record {
  v = pos 1 ∷ pos 0 ∷ pos 0 ∷ pos 0 ∷ pos 0 ∷ pos 0 ∷ pos 1 ∷ pos 0 ∷ pos 0 ∷ [];
  s = pos 1 ∷ pos 6 ∷ pos 1 ∷ pos 3 ∷ pos 1 ∷ pos 1 ∷ pos 0 ∷ negsuc 0 ∷ [];
}
unfolding moves_on_literals
price_place = refl

pub foot_place : footprint two_patients first_admitted place_1 ≡ 1 ∷ 2 ∷ 8 ∷ 10 ∷ 12 ∷ 13 ∷ 14 ∷ 24 ∷ 25 ∷ 26 ∷ 37 ∷ []
unfolding moves_on_literals
foot_place = refl

-- The other nurse takes the night shift.
pub price_nurse : change_of_bill two_patients first_admitted (after two_patients first_admitted (nurse 0 2 1)) ≡ record {
  v = pos 0 ∷ pos 0 ∷ pos 0 ∷ pos 0 ∷ pos 0 ∷ pos 0 ∷ pos 0 ∷ pos 0 ∷ pos 0 ∷ [];
  s = pos 0 ∷ negsuc 1 ∷ pos 2 ∷ pos 0 ∷ pos 0 ∷ pos 0 ∷ pos 0 ∷ pos 0 ∷ [];
}
unfolding moves_on_literals
price_nurse = refl

pub foot_nurse : footprint two_patients first_admitted (nurse 0 2 1) ≡ 14 ∷ 26 ∷ 32 ∷ 36 ∷ 38 ∷ []
unfolding moves_on_literals
foot_nurse = refl

-- A day for a patient who isn't admitted changes nothing, and was found from the stay alone.
pub price_setday : change_of_bill two_patients first_admitted (after two_patients first_admitted (SetDay (record { 0 = 1 }) (record { 0 = 1 }))) ≡ bill9 0 0 0 0 0 0 0 0 0 0 0 0 0 0 0 0 0
unfolding moves_on_literals
price_setday = refl

pub foot_setday : footprint two_patients first_admitted (SetDay (record { 0 = 1 }) (record { 0 = 1 })) ≡ 1 ∷ []
unfolding moves_on_literals
foot_setday = refl

-- A run of the one nurse covers the one room.
pub price_run : change_of_bill one_room (empty one_room) (after one_room (empty one_room) (nurse_run 0 0 0 5)) ≡ record {
  v = pos 0 ∷ pos 0 ∷ pos 0 ∷ pos 0 ∷ pos 0 ∷ pos 0 ∷ pos 0 ∷ pos 0 ∷ negsuc 2 ∷ [];
  s = pos 0 ∷ pos 1 ∷ pos 1 ∷ pos 0 ∷ pos 0 ∷ pos 0 ∷ pos 0 ∷ pos 0 ∷ [];
}
unfolding moves_on_literals
price_run = refl

pub score_run : score 1000 weights (change_of_bill one_room (empty one_room) (after one_room (empty one_room) (nurse_run 0 0 0 5))) ≡ negsuc 2987
unfolding moves_on_literals
score_run = refl

-- the law of parts at the examples
pub parts_of_first_admitted : HasParts two_patients first_admitted
unfolding moves_on_literals content_of part_of
parts_of_first_admitted = refl

pub parts_of_shared_room : HasParts two_patients (first_admitted_with (Some (at 0 0 1)))
unfolding moves_on_literals content_of part_of
parts_of_shared_room = refl
