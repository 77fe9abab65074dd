-- What is written is read back.
use Rattle.std.proofs.Common.{◌≡◌, ℕ, refl, sym, subst, Bool, true, false, List, [], ◌∷◌, ◌++◌, map, Option, Some, None}
use Rattle.std.specs.Prelude.{IfSome, if◌then◌else◌, slice_get}
use Rattle.std.specs.Option.{option_map_or}
use Rattle.std.specs.List.{AllByRecursion, flat_map, range_with_len}
use Rattle.csv.specs.Reading.{AreRecords, Reached, default_config, strip_bom}
use Rattle.csv.specs.Machine.{next_record}
use Rattle.csv.specs.Writing.{default_writer, row_text}
use Rattle.csv.specs.declared.parser.State.TheVariants.{StartRecord}
use Rattle.csv.proofs.OnLiterals.{csv_on_literals}
use Rattle.csv.proofs.RoundTrip.{read-write}
use Rattle.jiff.specs.Types.{Date}
use Rattle.ih_tables.specs.declared.drafts.Draft.{Draft}
use Rattle.ih_tables.specs.declared.drafts.Patient.{Patient}
use Rattle.ih_tables.specs.Sizes.{nurse_count, patient_count, room_count, shift_count, theatre_count}
use Rattle.ih_plan.specs.declared.moves.Placement.{Placement}
use Rattle.ih_plan.specs.Costs.{operated}
use Rattle.ih_plan.specs.Timetable.{Timetable, stay_of}
use Rattle.ih_sheet.specs.declared.subjects.Subject.{Subject}
use Rattle.ih_sheet.specs.declared.subjects.Subject.TheVariants.{Calendar, Nurses, Patients, Rooms, Theatres}
use Rattle.ih_sheet.specs.Laws.{TableReadsBack}
use Rattle.ih_sheet.specs.Rows.{Row, is_shown, nurse_row, patient_fields, patient_row, room_row, rows_of_day, rows_of_nurse, rows_of_room, rows_of_theatre, surgery_fields, surgery_row}
use Rattle.ih_sheet.specs.Sheets.{rows_of, sheet_text}

-- ---- rows that have a field are read back

-- a row with a field
abbrev HasField : Row → Type 0
HasField [] = ⊥
HasField (x ∷ xs) = Unit {0}

abbrev HaveFields : List Row → Type 0
HaveFields rows = AllByRecursion HasField rows

row-back : (row : Row) (tail : List ℕ) → HasField row → next_record default_config StartRecord [] [] (row_text default_writer row ++ tail) ≡ Some (row, StartRecord, tail)
row-back [] tail none = absurd none
row-back (x ∷ xs) tail some = read-write (x ∷ xs) tail

rows-reached : (rows : List Row) → HaveFields rows → Reached default_config StartRecord (sheet_text rows) rows StartRecord []
unfolding Reached
rows-reached [] h = (refl, refl)
rows-reached (row ∷ rows) h = ((row, StartRecord, sheet_text rows), row-back row (sheet_text rows) h.0, refl, rows-reached rows h.1)

nothing-more : next_record default_config StartRecord [] [] [] ≡ None
unfolding next_record
nothing-more = refl

are-records : (rows : List Row) → HaveFields rows → AreRecords default_config StartRecord (sheet_text rows) rows
are-records rows h = (StartRecord, [], rows-reached rows h, nothing-more)

rows-back : (o : Option (List Row)) → IfSome o (λ rows. strip_bom (sheet_text rows) ≡ sheet_text rows) → IfSome o HaveFields
    → IfSome o (λ rows. AreRecords default_config StartRecord (strip_bom (sheet_text rows)) rows)
rows-back None unmarked have = tt
rows-back (Some rows) unmarked have =
    subst (λ (text : List ℕ). AreRecords default_config StartRecord text rows) (sym unmarked) (are-records rows have)

-- ---- the rows of tables have fields

all-append : (xs ys : List Row) → HaveFields xs → HaveFields ys → HaveFields (xs ++ ys)
all-append [] ys f g = g
all-append (x ∷ xs) ys f g = (f.0, all-append xs ys f.1 g)

all-flat : (f : ℕ → List Row) → ((i : ℕ) → HaveFields (f i)) → (ns : List ℕ) → HaveFields (flat_map f ns)
all-flat f each [] = tt
all-flat f each (n ∷ ns) = all-append (f n) (flat_map f ns) (each n) (all-flat f each ns)

all-mapped : (f : ℕ → Row) → ((i : ℕ) → HasField (f i)) → (ns : List ℕ) → HaveFields (map f ns)
all-mapped f each [] = tt
all-mapped f each (n ∷ ns) = (each n, all-mapped f each ns)

chosen-has : (b : Bool) (row : Row) → HasField row → HaveFields (if b then row ∷ [] else [])
chosen-has true row h = (h, tt)
chosen-has false row h = tt

of-has : (o : Option Patient) (f : Patient → Row) → ((a : Patient) → HasField (f a)) → HasField (option_map_or f o ([] ∷ []))
of-has None f h = tt
of-has (Some a) f h = h a

fields-has : (I : Draft) (dates : List (Option Date)) (s : Option Placement) (a : Patient) → HasField (patient_fields I dates s a)
fields-has I dates None a = tt
fields-has I dates (Some at) a = tt

patient-has : (I : Draft) (dates : List (Option Date)) (P : Timetable) (p : ℕ) → HasField (patient_row I dates P p)
unfolding patient_row
patient-has I dates P p = of-has (slice_get I.patients p) (patient_fields I dates (stay_of P p)) (fields-has I dates (stay_of P p))

nurse-has : (I : Draft) (dates : List (Option Date)) (P : Timetable) (n k : ℕ) → HasField (nurse_row I dates P n k)
unfolding nurse_row
nurse-has I dates P n k = tt

room-has : (I : Draft) (dates : List (Option Date)) (P : Timetable) (r d : ℕ) → HasField (room_row I dates P r d)
unfolding room_row
room-has I dates P r d = tt

surgery-has : (I : Draft) (dates : List (Option Date)) (t d p : ℕ) → HasField (surgery_row I dates t d p)
unfolding surgery_row
surgery-has I dates t d p = of-has (slice_get I.patients p) (surgery_fields I dates t d) (λ a. tt)

module _ (I : Draft) (dates : List (Option Date)) (P : Timetable) where
  nurse-rows-have : (n : ℕ) → HaveFields (rows_of_nurse I dates P n)
  nurse-rows-have n = all-flat (λ k. if is_shown I P n k then nurse_row I dates P n k ∷ [] else [])
      (λ k. chosen-has (is_shown I P n k) (nurse_row I dates P n k) (nurse-has I dates P n k)) (range_with_len 0 (shift_count I))

  room-rows-have : (r : ℕ) → HaveFields (rows_of_room I dates P r)
  room-rows-have r = all-flat (λ d. room_row I dates P r d ∷ []) (λ d. (room-has I dates P r d, tt)) (range_with_len 0 I.days)

  theatre-rows-have : (t : ℕ) → HaveFields (rows_of_theatre I dates P t)
  theatre-rows-have t = all-flat (rows_of_day I dates P t)
      (λ d. all-mapped (surgery_row I dates t d) (surgery-has I dates t d) (operated I P t d)) (range_with_len 0 I.days)

  table-has : (of : Subject) → IfSome (rows_of of I dates P) HaveFields
  table-has Patients = (tt, all-flat (λ p. patient_row I dates P p ∷ []) (λ p. (patient-has I dates P p, tt)) (range_with_len 0 (patient_count I)))
  table-has Nurses = (tt, all-flat (rows_of_nurse I dates P) nurse-rows-have (range_with_len 0 (nurse_count I)))
  table-has Rooms = (tt, all-flat (rows_of_room I dates P) room-rows-have (range_with_len 0 (room_count I)))
  table-has Theatres = (tt, all-flat (rows_of_theatre I dates P) theatre-rows-have (range_with_len 0 (theatre_count I)))
  table-has Calendar = tt

  -- a table begins with its heading, and no heading with the mark of a byte order
  no-mark : (of : Subject) → IfSome (rows_of of I dates P) (λ rows. strip_bom (sheet_text rows) ≡ sheet_text rows)
  unfolding csv_on_literals strip_bom
  no-mark Patients = refl
  no-mark Nurses = refl
  no-mark Rooms = refl
  no-mark Theatres = refl
  no-mark Calendar = tt

  pub table-read-back : (of : Subject) → TableReadsBack of I dates P
  table-read-back of = rows-back (rows_of of I dates P) (no-mark of) (table-has of)
