-- The workload of each nurse in each shift, as a table, beside the most that the nurse may have.
use Rattle.std.specs.Prelude.{◌≡◌, ◌<◌, ℕ, ℤ, pos, ◌-ℤ◌, ◌+◌, ◌-◌, ◌*◌, ◌/◌, ◌%◌, ◌^◌, ◌==◌, ◌&&◌, if◌then◌else◌, List, length, Option, Some, None, slice_index, slice_index_or, option_map}
use Rattle.ih_tables.specs.declared.drafts.Draft.{Draft}
use Rattle.ih_tables.specs.declared.ids.NurseNo.{NurseNo}
use Rattle.ih_tables.specs.declared.ids.PatientNo.{PatientNo}
use Rattle.ih_tables.specs.Sizes.{patient_count, nurse_count, shift_count}
use Rattle.ih_tables.specs.Works.{max_load}
use Rattle.ih_plan.specs.declared.moves.Placement.{Placement}
use Rattle.ih_plan.specs.Timetable.{Timetable, IsPlanOf, IsPlacement, care_of}
use Rattle.ih_plan.specs.Persons.{person_of}
use Rattle.ih_plan.specs.Presence.{covers, day_of}
use Rattle.ih_plan.specs.Costs.{load_of, is_number, overload}
use Rattle.ih_nurses.specs.declared.loads.NurseLoad.{NurseLoad}

-- what the table has for nurse n and shift k
abbrev pub entry_at : Draft → List NurseLoad → ℕ → ℕ → NurseLoad
entry_at I loads n k = slice_index_or loads (n * shift_count I + k) (record { work = 0; most = 0 })

-- the workload there
abbrev pub load_at : Draft → List NurseLoad → ℕ → ℕ → ℕ
load_at I loads n k = (entry_at I loads n k).work

-- the most there
abbrev pub most_at : Draft → List NurseLoad → ℕ → ℕ → ℕ
most_at I loads n k = (entry_at I loads n k).most

-- a maximum load as a number: no number of 32 bits is above it where there is none
abbrev pub most_of : Option ℕ → ℕ
most_of None = 2 ^ 32 - 1
most_of (Some most) = most

-- the load 0 at place j of the table
abbrev pub free_load : Draft → ℕ → NurseLoad
free_load I j = record { work = 0; most = most_of (max_load I (j / shift_count I) (j % shift_count I)) }

-- what nurse m has in shift j of a load that nurse n, where there is one, has in shift k
abbrev pub share : Option NurseNo → ℕ → ℕ → ℕ → ℕ → ℕ
share n k load m j = if (j == k) && is_number (option_map (λ (a : NurseNo). a.0) n) m then load else 0

-- The timetable fits the instance, which has the patient and what the placement names.
pub record IsStayOf (I : Draft) (P : Timetable) (p : PatientNo) (at : Placement) : Type 0 where
  pub plan : IsPlanOf I P
  pub patient : p.0 < patient_count I
  pub placement : IsPlacement I at

-- what a stay of patient p gives to nurse n in shift k
abbrev pub stay_load : Draft → Timetable → ℕ → Placement → ℕ → ℕ → ℕ
stay_load I P p at n k =
    if is_number (care_of P at.room.0 k) n
    then (if covers at.day.0 (person_of I p).length_of_stay (day_of k)
    then slice_index (person_of I p).workload (k - 3 * at.day.0)
    else 0)
    else 0

-- what a stay of patient p, where there is one, gives to nurse n in shift k; else 0
abbrev pub load_of_stay : Draft → Timetable → ℕ → Option Placement → ℕ → ℕ → ℕ
load_of_stay I P p None n k = 0
load_of_stay I P p (Some at) n k = stay_load I P p at n k

-- by how much the workload above the maximum of a nurse, where there is one, increases when the load becomes another
abbrev pub excess_increase : Draft → List NurseLoad → Option NurseNo → ℕ → (ℕ → ℕ) → ℤ
excess_increase I loads None k after = pos 0
excess_increase I loads (Some a) k after =
    pos (overload (max_load I a.0 k) (after (load_at I loads a.0 k)))
    -ℤ pos (overload (max_load I a.0 k) (load_at I loads a.0 k))

-- The table has a place for each nurse and shift, and the most there is the nurse's maximum.
pub record IsTable (I : Draft) (loads : List NurseLoad) : Type 0 where
  pub len : length loads ≡ nurse_count I * shift_count I
  pub most : (n k : ℕ) → n < nurse_count I → k < shift_count I → most_at I loads n k ≡ most_of (max_load I n k)

-- The table has the workload of each nurse in each shift.
pub record AreLoads (I : Draft) (P : Timetable) (loads : List NurseLoad) : Type 0 where
  pub table : IsTable I loads
  pub each : (n k : ℕ) → n < nurse_count I → k < shift_count I → load_at I loads n k ≡ load_of I P n k
