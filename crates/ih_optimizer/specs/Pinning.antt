-- The ids of patients whose stays are pinned, and what is said of one that no patient has.
use Rattle.std.specs.Prelude.{ℕ, List, ◌++◌, Option, codes, find, is_none, map}
use Rattle.ih_optimizer.specs.Below.Wards.{Draft}
use Rattle.ih_optimizer.specs.Below.Arguments.{Text}
use Rattle.ih_tables.specs.declared.drafts.Patient.{Patient}
use Rattle.ih_tables.specs.declared.refusals.Fault.TheVariants.{Unknown}
use Rattle.ih_tables.specs.declared.refusals.Key.TheVariants.{Patients}
use Rattle.ih_tables.specs.declared.refusals.Refusal.{Refusal}
use Rattle.ih_tables.specs.Lookups.{number_in}
use Rattle.ih_tables.specs.Places.{at_key, whole}

-- the first of these ids that no patient has
abbrev pub first_unknown : Draft → List Text → Option Text
first_unknown I ids = find (λ id. is_none (number_in (map (λ (a : Patient). a.id) I.patients) id)) ids

-- why the call is refused then: it isn't among the instance's patients
abbrev pub unknown_patient : Refusal
unknown_patient = record { fault = Unknown; at = at_key Patients whole }

-- the id is said
abbrev pub unknown_text : Text → List ℕ
unknown_text id = codes "unknown patient: " ++ (id ++ codes "\n")
