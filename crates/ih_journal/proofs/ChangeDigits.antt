-- How many digits each number of a change of the bill has at most, by the limits of an instance.
use Rattle.std.proofs.Common.{ℕ, ◌+◌, ◌-◌, ◌<◌, ◌≤◌, ◌^◌, arith, length, pos, negsuc, ℤ}
use Rattle.std.specs.Prelude.{◌&&◌, not, is_none, ◌≤ℤ◌, ◌-ℤ◌, neg_ℤ}
use Rattle.std.specs.Fmt.{signed_decimal}
use Rattle.std.proofs.lemmas.Int.{ints}
use Rattle.std.proofs.lemmas.Fmt.{length_signed_le}
use lib.Signed.{mag}
use Rattle.ih_tables.specs.declared.drafts.Draft.{Draft}
use Rattle.ih_tables.specs.Valid.{IsValid}
use Rattle.ih_plan.specs.Timetable.{Timetable, IsPlanOf}
use Rattle.ih_plan.specs.Sums.{bit}
use Rattle.ih_plan.specs.Costs.{in_bad_room, outside_window, genders_differ, not_working, capacity_of, is_empty}
use Rattle.ih_plan.specs.BillOf.{bill_of, change_of_bill, gender_mixes, bad_rooms, surgeon_overtime, theatre_overtime, mandatory_left_out, outside_windows, over_capacity, nurses_off, uncovered, mixed_ages, missing_skill, nurses_seen, overloads, open_theatres, transfers, delays, optional_left_out}
use Rattle.ih_plan.proofs.BillBounds.{bill-counts, few-persons, room-days-most, bits-few, patients-few, surgeon_overtime-few, theatre_overtime-few, nurses_seen-few, open_theatres-few, transfers-few, delays-few}
use Rattle.ih_plan.proofs.TestLemmas.{bit-most}
use Rattle.ih_journal.proofs.TextLengths.{IsShortPrice}

-- ---- the numbers

module _ (I : Draft) (valid : IsValid I) where
  module _ (P : Timetable) where
    gender_mixes-few : gender_mixes I P ≤ 7168
    unfolding gender_mixes
    gender_mixes-few =
        let all = room-days-most I P valid 1 (λ r xs. bit (genders_differ I xs)) (λ r xs h. bit-most (genders_differ I xs)) in omega (arith, all)

    bad_rooms-few : bad_rooms I P ≤ 2048
    unfolding bad_rooms
    bad_rooms-few = patients-few I P valid (λ a stay. in_bad_room a stay)

    mandatory_left_out-few : mandatory_left_out I P ≤ 2048
    unfolding mandatory_left_out
    mandatory_left_out-few = patients-few I P valid (λ a stay. a.mandatory && is_none stay)

    outside_windows-few : outside_windows I P ≤ 2048
    unfolding outside_windows
    outside_windows-few = patients-few I P valid outside_window

    over_capacity-few : over_capacity I P ≤ 18350080
    unfolding over_capacity
    over_capacity-few =
        let all = room-days-most I P valid 2560 (λ r xs. length xs - capacity_of I r) (λ r xs h. omega (arith, h, few-persons I valid)) in omega (arith, all)

    nurses_off-few : nurses_off I P ≤ 21504
    unfolding nurses_off
    nurses_off-few = bits-few I P valid (λ k n xs. not_working I k n)

    uncovered-few : uncovered I P ≤ 21504
    unfolding uncovered
    uncovered-few = bits-few I P valid (λ k n xs. is_none n && not (is_empty xs))

    optional_left_out-few : optional_left_out I P ≤ 2048
    unfolding optional_left_out
    optional_left_out-few = patients-few I P valid (λ a stay. not a.mandatory && is_none stay)

    -- those of which the bound on every number of a bill is enough
    module _ (plan : IsPlanOf I P) where
      mixed_ages-few : mixed_ages I P ≤ 10 ^ 11
      unfolding bill_of
      mixed_ages-few = let most = ((bill-counts I P valid plan).s 0 (omega arith)).1 in omega (arith, ints, most)

      missing_skill-few : missing_skill I P ≤ 10 ^ 11
      unfolding bill_of
      missing_skill-few = let most = ((bill-counts I P valid plan).s 1 (omega arith)).1 in omega (arith, ints, most)

      overloads-few : overloads I P ≤ 10 ^ 11
      unfolding bill_of
      overloads-few = let most = ((bill-counts I P valid plan).s 3 (omega arith)).1 in omega (arith, ints, most)

-- ---- a change of one number

mag-in : (z : ℤ) (n : ℕ) → neg_ℤ (pos n) ≤ℤ z → z ≤ℤ pos n → mag z ≤ n
mag-in (pos k) n low high = omega (arith, ints, high)
mag-in (negsuc k) n low high = omega (arith, ints, low)

-- the text of the change from one number to another has one byte more than they have digits
apart : (x y most digits : ℕ) → x ≤ most → y ≤ most → most + 1 < 10 ^ digits → most < 2 ^ 62 → length (signed_decimal (pos x -ℤ pos y)) ≤ digits + 1
apart x y most digits hx hy small fits =
    let size = mag-in (pos x -ℤ pos y) most (omega (arith, ints, hy)) (omega (arith, ints, hx)) in
    length_signed_le digits (pos x -ℤ pos y) (omega (arith, size, small)) (omega (arith, size, fits))

pub change-short : (I : Draft) (P Q : Timetable) → IsValid I → IsPlanOf I P → IsPlanOf I Q → IsShortPrice (change_of_bill I P Q)
unfolding bill_of
change-short I P Q valid planP planQ = (
  apart (gender_mixes I Q) (gender_mixes I P) 7168 5 (gender_mixes-few I valid Q) (gender_mixes-few I valid P) (omega arith) (omega arith),
  (
    apart (bad_rooms I Q) (bad_rooms I P) 2048 5 (bad_rooms-few I valid Q) (bad_rooms-few I valid P) (omega arith) (omega arith),
    (
      apart (surgeon_overtime I Q) (surgeon_overtime I P) 204800000 9 (surgeon_overtime-few I Q valid) (surgeon_overtime-few I P valid) (omega arith) (omega arith),
      (
        apart (theatre_overtime I Q) (theatre_overtime I P) 204800000 9 (theatre_overtime-few I Q valid) (theatre_overtime-few I P valid) (omega arith) (omega arith),
        (
          apart (mandatory_left_out I Q) (mandatory_left_out I P) 2048 5 (mandatory_left_out-few I valid Q) (mandatory_left_out-few I valid P) (omega arith) (omega arith),
          (
            apart (outside_windows I Q) (outside_windows I P) 2048 5 (outside_windows-few I valid Q) (outside_windows-few I valid P) (omega arith) (omega arith),
            (
              apart (over_capacity I Q) (over_capacity I P) 18350080 8 (over_capacity-few I valid Q) (over_capacity-few I valid P) (omega arith) (omega arith),
              (
                apart (nurses_off I Q) (nurses_off I P) 21504 5 (nurses_off-few I valid Q) (nurses_off-few I valid P) (omega arith) (omega arith),
                (
                  apart (uncovered I Q) (uncovered I P) 21504 5 (uncovered-few I valid Q) (uncovered-few I valid P) (omega arith) (omega arith),
                  (
                    apart (mixed_ages I Q) (mixed_ages I P) (10 ^ 11) 12 (mixed_ages-few I valid Q planQ) (mixed_ages-few I valid P planP) (omega arith) (omega arith),
                    (
                      apart (missing_skill I Q) (missing_skill I P) (10 ^ 11) 12 (missing_skill-few I valid Q planQ) (missing_skill-few I valid P planP) (omega arith) (omega arith),
                      (
                        apart (nurses_seen I Q) (nurses_seen I P) 1310720 7 (nurses_seen-few I Q valid) (nurses_seen-few I P valid) (omega arith) (omega arith),
                        (
                          apart (overloads I Q) (overloads I P) (10 ^ 11) 12 (overloads-few I valid Q planQ) (overloads-few I valid P planP) (omega arith) (omega arith),
                          (
                            apart (open_theatres I Q) (open_theatres I P) 3584 5 (open_theatres-few I Q valid) (open_theatres-few I P valid) (omega arith) (omega arith),
                            (
                              apart (transfers I Q) (transfers I P) 458752 6 (transfers-few I Q valid) (transfers-few I P valid) (omega arith) (omega arith),
                              (
                                apart (delays I Q) (delays I P) 114688 6 (delays-few I Q valid planQ) (delays-few I P valid planP) (omega arith) (omega arith),
                                (
                                  apart (optional_left_out I Q) (optional_left_out I P) 2048 5 (optional_left_out-few I valid Q) (optional_left_out-few I valid P) (omega arith) (omega arith),
                                  tt,
                                ),
                              ),
                            ),
                          ),
                        ),
                      ),
                    ),
                  ),
                ),
              ),
            ),
          ),
        ),
      ),
    ),
  ),
)
