-- The nurses' items that were read so far, in the timetable and the flags that they made.
use Rattle.std.proofs.Common.{◌≡◌, ℕ, ◌+◌, ◌<◌, ◌≤◌, List, [], ◌∷◌, ◌++◌, length, get_or, map, replicate, refl, ap, sym, ◌∙◌, Bool, true, false}
use Rattle.std.specs.Prelude.{Ok, Err, slice_set}
use Rattle.serde_json.specs.View.{view}
use Rattle.serde_json.specs.declared.value.Value.{Value}
use Rattle.ih_tables.specs.declared.drafts.Draft.{Draft}
use Rattle.ih_tables.specs.declared.refusals.Place.{Place}
use Rattle.ih_tables.specs.Places.{at_item}
use Rattle.ih_tables.specs.Sizes.{nurse_count, shift_count}
use Rattle.ih_plan.specs.Timetable.{Timetable, IsPlanOf}
use Rattle.ih_format.specs.Checks.{Check}
use Rattle.ih_format.specs.Flags.{is_among}
use Rattle.ih_tables.specs.Marks.{is_marked}
use Rattle.ih_format.specs.Gives.{Gives, seen}
use Rattle.ih_format.specs.declared.errors.FormatError.{FormatError}
use Rattle.ih_format.specs.declared.errors.FormatError.TheVariants.{Refused, OutOfMemory}
use Rattle.ih_format.proofs.Flags.{AreFlagged, are_flagged-none, are_flagged-more}
use Rattle.ih_format.proofs.Items.{AreRead, are_read-none, are_read-more, are_read-fault, are_read-all}
use Rattle.ih_solution.specs.Reading.{nurse_row, nurse_rows, has_nurse, cares_of, timetable_of}
use Rattle.ih_solution.specs.Assigned.{IsListedNurse, with_assignments}
use Rattle.ih_solution.specs.declared.reader.rows.ListedNurse.{ListedNurse}
use Rattle.ih_solution.proofs.Grids.{cares-more}

abbrev number : ListedNurse → ℕ
number row = row.nurse.0

abbrev row_after : Draft → List ListedNurse → Check ListedNurse
row_after I before = nurse_row I (is_among number before) (has_nurse (timetable_of I [] before))

-- the first i values are read, their assignments are in the timetable, and their nurses are flagged
pub record AreNursed (I : Draft) (p : Place) (vs : List Value) (i : ℕ) (flags : List Bool) (P Q : Timetable) : Type 0 where
  pub rows : List ListedNurse
  pub read : AreRead (row_after I) p vs i rows
  pub flagged : AreFlagged number (nurse_count I) flags rows
  pub plan : IsPlanOf I Q
  pub same : Q ≡ record { stays = P.stays; cares = cares_of I rows; shifts = shift_count I }

-- the flags and the timetable stand for the rows read so far
as_read : {I : Draft} {p : Place} {vs : List Value} {i : ℕ} {flags : List Bool} {P Q : Timetable} (so_far : AreNursed I p vs i flags P Q)
    → nurse_row I (is_marked flags) (has_nurse Q) ≡ row_after I so_far.rows
as_read {I} {p} {vs} {i} {flags} {P} {Q} so_far =
    ap (λ (f : ℕ → Bool). nurse_row I f (has_nurse Q)) so_far.flagged.same ∙ ap (λ (R : Timetable). nurse_row I (is_among number so_far.rows) (has_nurse R)) so_far.same

pub are_nursed-none : (I : Draft) (p : Place) (vs : List Value) (P : Timetable) → IsPlanOf I P → P.cares ≡ cares_of I [] → AreNursed I p vs 0 (replicate (nurse_count I) false) P P
are_nursed-none I p vs P plan e = record {
  rows = [];
  read = are_read-none _ p vs;
  flagged = are_flagged-none _ (nurse_count I);
  plan = plan;
  same = rw (← e, ← plan.shifts) refl;
}

pub are_nursed-more : {I : Draft} {p : Place} {vs : List Value} {i : ℕ} {flags : List Bool} {P Q : Timetable} (v : Value) (row : ListedNurse) (R : Timetable)
    → 1 ≤ I.days → AreNursed I p vs i flags P Q → i < length vs → v ≡ get_or vs i v
    → nurse_row I (is_marked flags) (has_nurse Q) (at_item i p) (view v) ≡ Ok row → IsListedNurse I Q row → IsPlanOf I R → R ≡ with_assignments row.nurse row.assignments Q
    → AreNursed I p vs (i + 1) (slice_set flags row.nurse.0 true) P R
unfolding cares_of
are_nursed-more {I} {p} {vs} {i} {flags} {P} {Q} v row R some so_far h e ok fits plan gives = record {
  rows = so_far.rows ++ row ∷ [];
  read = are_read-more v row so_far.read h e (ap (λ (c : Check ListedNurse). c (at_item i p) (view v)) (sym (as_read so_far)) ∙ ok);
  flagged = are_flagged-more row so_far.flagged fits.nurse;
  plan = plan;
  same = gives ∙ ap (with_assignments row.nurse row.assignments) so_far.same ∙ cares-more I so_far.rows row P.stays some (rw so_far.same at fits);
}

-- where an item is refused, or memory runs out, so is the list
pub are_nursed-exit : {I : Draft} {p : Place} {vs : List Value} {i : ℕ} {flags : List Bool} {P Q : Timetable} (g : List ListedNurse → Timetable) (v : Value)
    (e : FormatError) → AreNursed I p vs i flags P Q → i < length vs → v ≡ get_or vs i v
    → Gives (λ (row : ListedNurse). row) (Err e) (nurse_row I (is_marked flags) (has_nurse Q) (at_item i p) (view v)) → Gives (λ (R : Timetable). R) (Err e) (seen g (nurse_rows I p (map view vs)))
are_nursed-exit {I} {p} {vs} {i} {flags} {P} {Q} g v (Refused r) so_far h e fault =
    ap (seen g) (are_read-fault v r so_far.read h e (ap (λ (c : Check ListedNurse). c (at_item i p) (view v)) (sym (as_read so_far)) ∙ fault))
are_nursed-exit g v OutOfMemory so_far h e fault = tt

pub are_nursed-all : {I : Draft} {p : Place} {vs : List Value} {i : ℕ} {flags : List Bool} {P Q : Timetable} → AreNursed I p vs i flags P Q → P.shifts ≡ shift_count I → length vs ≤ i
    → seen (λ rows. record P { cares = cares_of I rows }) (nurse_rows I p (map view vs)) ≡ Ok Q
are_nursed-all {I} {p} {vs} {i} {flags} {P} {Q} so_far width h =
    ap (seen (λ rows. record P { cares = cares_of I rows })) (are_read-all so_far.read h) ∙ ap Ok (rw (width) (sym so_far.same))
