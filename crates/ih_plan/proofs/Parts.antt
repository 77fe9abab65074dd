-- The law of parts: a timetable's bill is the sum of the parts of all its cells.
use Rattle.std.proofs.Common.{◌≡◌, ℕ, refl, ◌∙◌, List, [], ◌∷◌}
use Rattle.std.specs.Prelude.{Option, map, slice_index}
use Rattle.ih_tables.specs.declared.drafts.Draft.{Draft}
use Rattle.ih_tables.specs.declared.cells.Cell.{Cell}
use Rattle.ih_tables.specs.Sizes.{sizes_of}
use Rattle.ih_tables.specs.BillNumbers.{mixed_gender, incompatible_room, surgeon_overrun, theatre_overrun, unscheduled_mandatory, admission_window, room_capacity, nurse_presence, uncovered_room}
use Rattle.ih_tables.specs.BillNumbers.{mixed_age, nurse_skill, continuity_of_care, excess_workload, open_theatre, surgeon_transfer, patient_delay, unscheduled_optional}
use Rattle.ih_plan.specs.Timetable.{Timetable}
use Rattle.ih_plan.specs.Sums.{sum_below, tagged}
use Rattle.ih_plan.specs.Persons.{person_of}
use Rattle.ih_plan.specs.Costs.{is_empty, theatre_of}
use Rattle.ih_plan.specs.BillOf.{bill_of, cost_count, rule_count, gender_mixes, bad_rooms, surgeon_overtime, theatre_overtime, mandatory_left_out, outside_windows, over_capacity, nurses_off, uncovered, mixed_ages, missing_skill, nurses_seen, overloads, open_theatres, transfers, delays, optional_left_out}
use Rattle.ih_plan.specs.Cells.{cell_at, cell_count, content_of, part_of, part_at, HasParts}
use Rattle.std.proofs.Math.Nat.{add-zero, zero-add}
use Rattle.ih_plan.proofs.SumBounds.{sum_below-none}
use Rattle.ih_plan.proofs.CellNumbers.{sum_by_kind}
use Rattle.ih_plan.proofs.ListedBelow.{tagged-keys, tagged-values, tagged-both}

pub is_empty-tagged : {A : Type 0} (f : ℕ → A) (xs : List ℕ) → is_empty (tagged f xs) ≡ is_empty xs
is_empty-tagged f [] = refl
is_empty-tagged f (x ∷ xs) = refl

-- the sum over all cells
abbrev pub total : Draft → (Cell → ℕ) → ℕ
total I f = sum_below (cell_count I) (λ n. f (cell_at I n))

-- ---- the seventeen numbers

module _ (I : Draft) (P : Timetable) where
  theatres-told : (xs : List ℕ) → map (λ (x : ℕ × Option ℕ). x.0) (tagged (theatre_of P) xs) ≡ xs
  theatres-told = tagged-keys (theatre_of P)

  skills-told : (f : ℕ → ℕ) (xs : List ℕ) → map (λ (x : ℕ × ℕ). slice_index (person_of I x.0).skill x.1) (tagged f xs) ≡ map (λ i. slice_index (person_of I i).skill (f i)) xs
  skills-told = tagged-both (λ x e. slice_index (person_of I x).skill e)

  -- a sum over all cells is one over each kind: the kinds that lack the number add nothing, and tags don't count
  ruleset by_kind = (sum_below-none, add-zero, zero-add, is_empty-tagged, theatres-told, skills-told, tagged-values)

  sum-gender_mixes : total I (λ c. rule_count mixed_gender (part_at I P c)) ≡ gender_mixes I P
  unfolding part_of content_of gender_mixes
  sum-gender_mixes = sum_by_kind (sizes_of I) (λ c. rule_count mixed_gender (part_at I P c)) ∙ simp by_kind

  sum-bad_rooms : total I (λ c. rule_count incompatible_room (part_at I P c)) ≡ bad_rooms I P
  unfolding part_of content_of bad_rooms
  sum-bad_rooms = sum_by_kind (sizes_of I) (λ c. rule_count incompatible_room (part_at I P c)) ∙ simp by_kind

  sum-surgeon_overtime : total I (λ c. rule_count surgeon_overrun (part_at I P c)) ≡ surgeon_overtime I P
  unfolding part_of content_of surgeon_overtime
  sum-surgeon_overtime = sum_by_kind (sizes_of I) (λ c. rule_count surgeon_overrun (part_at I P c)) ∙ simp by_kind

  sum-theatre_overtime : total I (λ c. rule_count theatre_overrun (part_at I P c)) ≡ theatre_overtime I P
  unfolding part_of content_of theatre_overtime
  sum-theatre_overtime = sum_by_kind (sizes_of I) (λ c. rule_count theatre_overrun (part_at I P c)) ∙ simp by_kind

  sum-mandatory_left_out : total I (λ c. rule_count unscheduled_mandatory (part_at I P c)) ≡ mandatory_left_out I P
  unfolding part_of content_of mandatory_left_out
  sum-mandatory_left_out = sum_by_kind (sizes_of I) (λ c. rule_count unscheduled_mandatory (part_at I P c)) ∙ simp by_kind

  sum-outside_windows : total I (λ c. rule_count admission_window (part_at I P c)) ≡ outside_windows I P
  unfolding part_of content_of outside_windows
  sum-outside_windows = sum_by_kind (sizes_of I) (λ c. rule_count admission_window (part_at I P c)) ∙ simp by_kind

  sum-over_capacity : total I (λ c. rule_count room_capacity (part_at I P c)) ≡ over_capacity I P
  unfolding part_of content_of over_capacity
  sum-over_capacity = sum_by_kind (sizes_of I) (λ c. rule_count room_capacity (part_at I P c)) ∙ simp by_kind

  sum-nurses_off : total I (λ c. rule_count nurse_presence (part_at I P c)) ≡ nurses_off I P
  unfolding part_of content_of nurses_off
  sum-nurses_off = sum_by_kind (sizes_of I) (λ c. rule_count nurse_presence (part_at I P c)) ∙ simp by_kind

  sum-uncovered : total I (λ c. rule_count uncovered_room (part_at I P c)) ≡ uncovered I P
  unfolding part_of content_of uncovered
  sum-uncovered = sum_by_kind (sizes_of I) (λ c. rule_count uncovered_room (part_at I P c)) ∙ simp by_kind

  sum-mixed_ages : total I (λ c. cost_count mixed_age (part_at I P c)) ≡ mixed_ages I P
  unfolding part_of content_of mixed_ages
  sum-mixed_ages = sum_by_kind (sizes_of I) (λ c. cost_count mixed_age (part_at I P c)) ∙ simp by_kind

  sum-missing_skill : total I (λ c. cost_count nurse_skill (part_at I P c)) ≡ missing_skill I P
  unfolding part_of content_of missing_skill
  sum-missing_skill = sum_by_kind (sizes_of I) (λ c. cost_count nurse_skill (part_at I P c)) ∙ simp by_kind

  sum-nurses_seen : total I (λ c. cost_count continuity_of_care (part_at I P c)) ≡ nurses_seen I P
  unfolding part_of content_of nurses_seen
  sum-nurses_seen = sum_by_kind (sizes_of I) (λ c. cost_count continuity_of_care (part_at I P c)) ∙ simp by_kind

  sum-overloads : total I (λ c. cost_count excess_workload (part_at I P c)) ≡ overloads I P
  unfolding part_of content_of overloads
  sum-overloads = sum_by_kind (sizes_of I) (λ c. cost_count excess_workload (part_at I P c)) ∙ simp by_kind

  sum-open_theatres : total I (λ c. cost_count open_theatre (part_at I P c)) ≡ open_theatres I P
  unfolding part_of content_of open_theatres
  sum-open_theatres = sum_by_kind (sizes_of I) (λ c. cost_count open_theatre (part_at I P c)) ∙ simp by_kind

  sum-transfers : total I (λ c. cost_count surgeon_transfer (part_at I P c)) ≡ transfers I P
  unfolding part_of content_of transfers
  sum-transfers = sum_by_kind (sizes_of I) (λ c. cost_count surgeon_transfer (part_at I P c)) ∙ simp by_kind

  sum-delays : total I (λ c. cost_count patient_delay (part_at I P c)) ≡ delays I P
  unfolding part_of content_of delays
  sum-delays = sum_by_kind (sizes_of I) (λ c. cost_count patient_delay (part_at I P c)) ∙ simp by_kind

  sum-optional_left_out : total I (λ c. cost_count unscheduled_optional (part_at I P c)) ≡ optional_left_out I P
  unfolding part_of content_of optional_left_out
  sum-optional_left_out = sum_by_kind (sizes_of I) (λ c. cost_count unscheduled_optional (part_at I P c)) ∙ simp by_kind

  -- The law of parts.
  pub has_parts : HasParts I P
  unfolding bill_of
  has_parts =
      rw (← sum-gender_mixes, ← sum-bad_rooms, ← sum-surgeon_overtime, ← sum-theatre_overtime, ← sum-mandatory_left_out, ← sum-outside_windows)
      (rw (← sum-over_capacity, ← sum-nurses_off, ← sum-uncovered, ← sum-mixed_ages, ← sum-missing_skill, ← sum-nurses_seen)
      (rw (← sum-overloads, ← sum-open_theatres, ← sum-transfers, ← sum-delays, ← sum-optional_left_out) refl))
