-- The choices that a timetable makes, and between which writes each is.
use Rattle.std.specs.Prelude.{ℕ, ◌<◌, List, ◌∷◌, ◌++◌, None, map, flat_map}
use Rattle.std.specs.List.{range_with_len}
use Rattle.ih_tables.specs.declared.drafts.Draft.{Draft}
use Rattle.ih_tables.specs.Sizes.{patient_count, room_count, shift_count}
use Rattle.ih_plan.specs.declared.moves.Write.{Write}
use Rattle.ih_plan.specs.declared.moves.Write.TheVariants.{SetStay}
use Rattle.ih_fill.specs.Candidates.{care_writes, stay_writes}
use Rattle.ih_fill.specs.declared.choices.Choice.{Choice}
use Rattle.ih_fill.specs.declared.choices.Choice.TheVariants.{Nurse, Stay}

-- its patient, or its room and shift, are the instance's
abbrev pub IsChoiceOf : Draft → Choice → Type 0
IsChoiceOf I (Stay p) = p.0 < patient_count I
IsChoiceOf I (Nurse r k) = (r.0 < room_count I) × (k.0 < shift_count I)

-- the stays of the patients with these numbers
abbrev pub stay_choices : List ℕ → List Choice
stay_choices ps = map (λ p. Stay (record { 0 = p })) ps

-- the nurses of the first n rooms in shift k
abbrev pub nurses_in : ℕ → ℕ → List Choice
nurses_in k n = map (λ r. Nurse (record { 0 = r }) (record { 0 = k })) (range_with_len 0 n)

-- the nurse of each room in each shift, by shift, then by room
abbrev pub nurse_choices : Draft → List Choice
nurse_choices I = flat_map (λ k. nurses_in k (room_count I)) (range_with_len 0 (shift_count I))

-- the choices of a timetable: the stays of the patients in order, then the nurses
abbrev pub all_choices : Draft → List Choice
all_choices I = stay_choices (range_with_len 0 (patient_count I)) ++ nurse_choices I

-- Between which a fill chooses: no stay and those that the patient may get, or the nurses who work the shift.
abbrev pub candidates : Draft → Choice → List Write
candidates I (Stay p) = SetStay p None ∷ stay_writes I p.0
candidates I (Nurse r k) = care_writes I r.0 k.0
