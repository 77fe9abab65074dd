-- A written solution file reads as the timetable that was written.
use Rattle.std.proofs.Common.{◌≡◌, ℕ, List, [], ap, refl, arith, Some}
use Rattle.std.specs.Prelude.{Ok, Err, Result, IfOk}
use Rattle.std.specs.Str.{IsUtf8}
use Rattle.std.proofs.lemmas.Str.{is_utf8-from_IsUtf8}
use Rattle.serde_json.specs.Read.{read}
use Rattle.serde_json.proofs.OnLiterals.{serde_json_on_literals}
use Rattle.ih_tables.specs.declared.drafts.Draft.{Draft}
use Rattle.ih_tables.specs.declared.refusals.Place.{Place}
use Rattle.ih_tables.specs.declared.refusals.Key.TheVariants as keys
use Rattle.ih_tables.specs.Places.{at_key, at_item, whole}
use Rattle.ih_tables.specs.Sizes.{patient_count, nurse_count}
use Rattle.ih_tables.specs.Valid.{IsValid}
use Rattle.ih_tables.specs.Listed.{listed}
use Rattle.ih_plan.specs.Timetable.{Timetable, IsPlanOf, stay_of}
use Rattle.ih_format.specs.Documents.{value_of}
use Rattle.ih_format.specs.Flags.{is_among}
use Rattle.ih_format.proofs.Listing.{same_items}
use Rattle.ih_solution.specs.Reading.{plan_in, listed_plan, patient_row, nurse_row, patients, nurses, has_nurse, timetable_of}
use Rattle.ih_solution.specs.Solution.{solution_data, stay_data, nurse_data, patients_data, nurses_data, list_data}
use Rattle.ih_solution.specs.declared.reader.rows.ListedStay.{ListedStay}
use Rattle.ih_solution.specs.declared.reader.rows.ListedNurse.{ListedNurse}
use Rattle.ih_solution.proofs.EachReads.{each-listed, among-listed}
use Rattle.ih_solution.proofs.RowsRead.{stay-reads, row-reads, stay_row, nurse_as}
use Rattle.ih_solution.proofs.WrittenPlan.{rooms-free, same-timetable}

patients-read : (I : Draft) (P : Timetable) (q : Place) → IsValid I → IsPlanOf I P → patients I q (list_data (patients_data I P)) ≡ Ok (listed (patient_count I) (stay_row P))
patients-read I P q valid plan = rw same_items
    (each-listed (λ before. patient_row I (is_among (λ (row : ListedStay). row.patient.0) before)) (λ p. stay_data I p (stay_of P p)) (stay_row P) q
    (patient_count I) (λ p h.
    stay-reads I p (stay_of P p) _ (at_item p q) valid h (among-listed (λ (row : ListedStay). row.patient.0) (stay_row P) p p (λ i. refl) (omega arith)) (plan.placed p)))

nurses-read : (I : Draft) (P : Timetable) (q : Place) → IsValid I → nurses I q (list_data (nurses_data I P)) ≡ Ok (listed (nurse_count I) (nurse_as I P))
nurses-read I P q valid = rw same_items
    (each-listed (λ before. nurse_row I (is_among (λ (row : ListedNurse). row.nurse.0) before) (has_nurse (timetable_of I [] before))) (nurse_data I P)
    (nurse_as I P) q (nurse_count I) (λ n h.
    row-reads I P n _ _ (at_item n q) valid h (among-listed (λ (row : ListedNurse). row.nurse.0) (nurse_as I P) n n (λ i. refl) (omega arith)) (λ k kh. rooms-free I P n k kh)))

data-reads : (I : Draft) (P : Timetable) → IsValid I → IsPlanOf I P → listed_plan I whole (solution_data I P) ≡ Ok P
unfolding serde_json_on_literals listed_plan solution_data
data-reads I P valid plan =
    rw (patients-read I P (at_key keys.Patients whole) valid plan, nurses-read I P (at_key keys.Nurses whole) valid) (ap Ok (same-timetable I P valid.days.least plan))

pub reads-back : (I : Draft) (P : Timetable) (bytes : List ℕ) → IsValid I → IsPlanOf I P → IsUtf8 bytes → read bytes ≡ Some (solution_data I P) → plan_in I bytes ≡ Ok P
reads-back I P bytes valid plan utf8 same =
    let value : value_of bytes ≡ Some (solution_data I P) = rw (is_utf8-from_IsUtf8 bytes utf8) same in
    rw value (data-reads I P valid plan)

-- what follows from two facts of what a call gives
pub if_ok_both : {A E : Type 0} (r : Result A E) (P Q R : A → Type 0) → ((x : A) → P x → Q x → R x) → IfOk r P → IfOk r Q → IfOk r R
if_ok_both (Ok x) P Q R f p q = f x p q
if_ok_both (Err e) P Q R f p q = tt
