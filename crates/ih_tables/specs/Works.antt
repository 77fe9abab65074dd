-- Which shifts a nurse works, and up to which load.
use Rattle.std.specs.Prelude.{ℕ, ◌+◌, ◌*◌, ◌/◌, ◌%◌, ◌==◌, Bool, map, filter, List, [], ◌∷◌, Option, Some, None, if◌then◌else◌, is_some, slice_get, option_and_then}
use Rattle.std.specs.List.{range_with_len}
use Rattle.ih_tables.specs.Sizes.{nurse_count, shift_count}
use Rattle.ih_tables.specs.declared.drafts.Draft.{Draft}
use Rattle.ih_tables.specs.declared.drafts.Nurse.{Nurse}
use Rattle.ih_tables.specs.declared.drafts.WorkedShift.{WorkedShift}
use Rattle.ih_tables.specs.declared.ids.NurseNo.{NurseNo}

-- the number of a worked shift in the horizon
abbrev pub shift_of : WorkedShift → ℕ
shift_of w = 3 * w.day.0 + w.shift

-- the load of shift k in a list of worked shifts
abbrev pub load_in : List WorkedShift → ℕ → Option ℕ
load_in [] k = None
load_in (w ∷ ws) k = if shift_of w == k then Some w.max_load else load_in ws k

-- the maximum load of nurse n in shift k, where the nurse works it
abbrev pub max_load : Draft → ℕ → ℕ → Option ℕ
max_load I n k = option_and_then (λ (w : Nurse). load_in w.working_shifts k) (slice_get I.nurses n)

-- the maximum loads of all nurses and shifts, nurse by nurse
abbrev pub load_table : Draft → List (Option ℕ)
load_table I =
    map (λ j. max_load I (j / shift_count I) (j % shift_count I)) (range_with_len 0 (nurse_count I * shift_count I))

-- the first n nurses
abbrev pub first_nurses : ℕ → List NurseNo
first_nurses n = map (λ i. record { 0 = i }) (range_with_len 0 n)

-- nurse n works shift k
abbrev pub is_working : Draft → ℕ → NurseNo → Bool
is_working I k n = is_some (max_load I n.0 k)

-- the nurses who work shift k, rising
abbrev pub working : Draft → ℕ → List NurseNo
working I k = filter (is_working I k) (first_nurses (nurse_count I))

-- the nurses who work each shift
abbrev pub roster_table : Draft → List (List NurseNo)
roster_table I = map (working I) (range_with_len 0 (shift_count I))
