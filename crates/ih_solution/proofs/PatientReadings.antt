-- The items that were read so far, in the timetable and the flags that they made.
use Rattle.std.proofs.Common.{◌≡◌, ℕ, ◌+◌, ◌<◌, ◌≤◌, List, [], ◌∷◌, ◌++◌, length, get_or, map, replicate, ap, sym, ◌∙◌, Bool, true, false, subst}
use Rattle.std.specs.Prelude.{Ok, Err, IfSome, Option, Some, None, slice_set}
use Rattle.serde_json.specs.View.{view}
use Rattle.serde_json.specs.declared.value.Value.{Value}
use Rattle.ih_tables.specs.declared.drafts.Draft.{Draft}
use Rattle.ih_tables.specs.declared.refusals.Place.{Place}
use Rattle.ih_tables.specs.declared.refusals.Refusal.{Refusal}
use Rattle.ih_tables.specs.Places.{at_item}
use Rattle.ih_tables.specs.Sizes.{patient_count}
use Rattle.ih_plan.specs.declared.moves.Placement.{Placement}
use Rattle.ih_plan.specs.declared.moves.Write.TheVariants.{SetStay}
use Rattle.ih_plan.specs.Timetable.{Timetable, empty, IsPlanOf, IsPlacement}
use Rattle.ih_plan.specs.Writes.{put}
use Rattle.ih_plan.proofs.PlanRanges.{empty-plan, put-plan}
use Rattle.ih_format.specs.Checks.{Check}
use Rattle.ih_format.specs.Flags.{is_among}
use Rattle.ih_tables.specs.Marks.{is_marked}
use Rattle.ih_format.specs.Gives.{seen}
use Rattle.ih_format.proofs.Flags.{AreFlagged, are_flagged-none, are_flagged-more}
use Rattle.ih_format.proofs.Items.{AreRead, are_read-none, are_read-more, are_read-fault, are_read-all}
use Rattle.ih_solution.specs.Reading.{patient_row, patient_rows, timetable_of}
use Rattle.ih_solution.specs.declared.reader.rows.ListedStay.{ListedStay}
use Rattle.ih_solution.proofs.Timetables.{stays-more, no-rows}

abbrev number : ListedStay → ℕ
number row = row.patient.0

abbrev row_after : Draft → List ListedStay → Check ListedStay
row_after I before = patient_row I (is_among number before)

-- the first i values are read, their stays are in the timetable, and their patients are flagged
pub record AreAdmitted (I : Draft) (p : Place) (vs : List Value) (i : ℕ) (flags : List Bool) (P : Timetable) : Type 0 where
  pub rows : List ListedStay
  pub read : AreRead (row_after I) p vs i rows
  pub flagged : AreFlagged number (patient_count I) flags rows
  pub plan : IsPlanOf I P
  pub same : P ≡ timetable_of I rows []

pub are_admitted-none : (I : Draft) (p : Place) (vs : List Value) (P : Timetable) → P ≡ empty I → AreAdmitted I p vs 0 (replicate (patient_count I) false) P
are_admitted-none I p vs P e = record {
  rows = [];
  read = are_read-none _ p vs;
  flagged = are_flagged-none _ (patient_count I);
  plan = rw e (empty-plan I);
  same = e ∙ no-rows I;
}

pub are_admitted-more : {I : Draft} {p : Place} {vs : List Value} {i : ℕ} {flags : List Bool} {P : Timetable} (v : Value) (row : ListedStay)
    → AreAdmitted I p vs i flags P → i < length vs → v ≡ get_or vs i v
    → patient_row I (is_marked flags) (at_item i p) (view v) ≡ Ok row → row.patient.0 < patient_count I → is_marked flags row.patient.0 ≡ false → IfSome row.stay (IsPlacement I)
    → AreAdmitted I p vs (i + 1) (slice_set flags row.patient.0 true) (put (SetStay row.patient row.stay) P)
are_admitted-more {I} {p} {vs} {i} {flags} {P} v row so_far h e ok inside new placed = record {
  rows = so_far.rows ++ row ∷ [];
  read = are_read-more v row so_far.read h e (ap (λ (f : ℕ → Bool). patient_row I f (at_item i p) (view v)) (sym so_far.flagged.same) ∙ ok);
  flagged = are_flagged-more row so_far.flagged inside;
  plan = put-plan I P (SetStay row.patient row.stay) so_far.plan (inside, some_fits row.stay placed);
  same = ap (put (SetStay row.patient row.stay)) so_far.same ∙ sym (stays-more I so_far.rows row inside (ap (λ (f : ℕ → Bool). f row.patient.0) (sym so_far.flagged.same) ∙ new));
}
  where
    some_fits : (s : Option Placement) → IfSome s (IsPlacement I) → (at : Placement) → s ≡ Some at → IsPlacement I at
    some_fits (Some x) h at e = subst (IsPlacement I) (let same : x ≡ at = (let f : Some x ≡ Some at = e in cc) in same) h
    some_fits None h at e = absurd (let no : None ≡ Some at = e in cc)

pub are_admitted-fault : {I : Draft} {p : Place} {vs : List Value} {i : ℕ} {flags : List Bool} {P : Timetable} (v : Value) (r : Refusal)
    → AreAdmitted I p vs i flags P → i < length vs → v ≡ get_or vs i v
    → patient_row I (is_marked flags) (at_item i p) (view v) ≡ Err r → patient_rows I p (map view vs) ≡ Err r
are_admitted-fault {I} {p} {vs} {i} {flags} {P} v r so_far h e fault =
    are_read-fault v r so_far.read h e (ap (λ (f : ℕ → Bool). patient_row I f (at_item i p) (view v)) (sym so_far.flagged.same) ∙ fault)

pub are_admitted-all : {I : Draft} {p : Place} {vs : List Value} {i : ℕ} {flags : List Bool} {P : Timetable} → AreAdmitted I p vs i flags P → length vs ≤ i
    → seen (λ rows. timetable_of I rows []) (patient_rows I p (map view vs)) ≡ Ok P
are_admitted-all {I} so_far h = ap (seen (λ rows. timetable_of I rows [])) (are_read-all so_far.read h) ∙ ap Ok (sym so_far.same)
