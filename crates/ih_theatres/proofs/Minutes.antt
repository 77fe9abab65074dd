-- The minutes of patients, and that they are few.
use Rattle.std.proofs.Common.{◌≡◌, ℕ, ◌*◌, ◌≤◌, arith, ap, List, length, Some}
use Rattle.std.specs.Prelude.{slice_get}
use Rattle.std.specs.Option.{option_map_or}
use Rattle.std.proofs.lemmas.List.Sums.{sum_by-le}
use Rattle.ih_tables.specs.declared.drafts.Draft.{Draft}
use Rattle.ih_tables.specs.declared.drafts.Patient.{Patient}
use Rattle.ih_tables.specs.Sizes.{patient_count}
use Rattle.ih_tables.specs.Valid.{IsValid}
use Rattle.ih_plan.specs.Costs.{duration_of, minutes}
use Rattle.ih_plan.proofs.Overtime.{duration-most}
use Rattle.ih_links.specs.Lists.{AreNodes}
use Rattle.ih_links.proofs.Members.{length-once}

-- n patients' minutes
pub minutes-most : (I : Draft) (xs : List ℕ) (n : ℕ) → IsValid I → length xs ≤ n → minutes I xs ≤ n * 100000
minutes-most I xs n valid few =
    let each = sum_by-le (duration_of I) 100000 xs (λ i d h. duration-most I _ valid) in
    omega (arith, each)

pub duration-is : (I : Draft) (p : ℕ) (a : Patient) → slice_get I.patients p ≡ Some a → duration_of I p ≡ a.surgery_duration
duration-is I p a is = ap (λ o. option_map_or (λ (a : Patient). a.surgery_duration) o 0) is

-- the minutes of a whole list
pub list-most : (I : Draft) (xs : List ℕ) → IsValid I → AreNodes (patient_count I) xs → minutes I xs ≤ 204800000
list-most I xs valid known =
    let few = length-once (patient_count I) xs known.once known.below in
    let most = minutes-most I xs (patient_count I) valid few in
    let all : patient_count I ≤ 2048 = valid.patients.len.most in
    omega arith
