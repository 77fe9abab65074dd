-- Only its end ends a line of a calendar.
use Rattle.std.proofs.Common.{◌≡◌, ◌∙◌, ℕ, zero, suc, ◌+◌, ◌/◌, ◌%◌, arith, refl, Bool, true, false, List, [], ◌∷◌, ◌++◌, codes, pos, negsuc, ℤ, Option, Some, None}
use Rattle.std.specs.Prelude.{◌==◌, ◌&&◌, decimal, if◌then◌else◌, nat_lt, not, slice_get}
use Rattle.std.specs.Char.{is_ascii_control}
use Rattle.std.specs.Fmt.{digit_glyph, digits, digits_onto}
use Rattle.std.specs.List.{filter, flat_map, list_all, range_with_len}
use Rattle.std.specs.Option.{option_map_or}
use Rattle.std.proofs.lemmas.Bool.{and_from, and_parts, cond_both, lt-ltb}
use Rattle.std.proofs.lemmas.Bool.Decides.{nat_tests}
use Rattle.std.proofs.lemmas.List.Folds.{list_all-append}
use Rattle.jiff.specs.Types.{Date}
use Rattle.jiff.specs.Words.{date_text}
use Rattle.jiff_fmt.specs.Text.{pad2, pad4, year_text}
use Rattle.ih_tables.specs.declared.drafts.Draft.{Draft}
use Rattle.ih_tables.specs.declared.drafts.Patient.{Patient}
use Rattle.ih_tables.specs.Sizes.{theatre_count}
use Rattle.ih_plan.specs.Costs.{operated}
use Rattle.ih_plan.specs.Timetable.{Timetable}
use Rattle.ih_solution.specs.Solution.{theatre_id}
use Rattle.ih_sheet.specs.Calendar.{calendar_head, digits as date_digits, escaped, escaped_byte, event, event_lines, events_of_day, events_of_theatre, is_special, room_of}
use Rattle.ih_sheet.specs.Dates.{known_date}
use Rattle.ih_sheet.specs.Laws.{NothingEndsALine, is_plain}
use Rattle.ih_sheet.specs.Rows.{Row, rows_below, surgeon_id}

-- ---- lists of which all pass

all-both : {A : Type 0} (p : A → Bool) (xs ys : List A) → list_all p xs ≡ true → list_all p ys ≡ true → list_all p (xs ++ ys) ≡ true
all-both p xs ys h k = list_all-append p xs ys ∙ and_from (list_all p xs) (list_all p ys) h k

all-flat : {A B : Type 0} (p : B → Bool) (f : A → List B) → ((x : A) → list_all p (f x) ≡ true) → (xs : List A) → list_all p (flat_map f xs) ≡ true
all-flat p f each [] = refl
all-flat p f each (x ∷ xs) = all-both p (f x) (flat_map f xs) (each x) (all-flat p f each xs)

all-kept : {A : Type 0} (p keep : A → Bool) (xs : List A) → list_all p xs ≡ true → list_all p (filter keep xs) ≡ true
all-kept p keep [] h = refl
all-kept p keep (x ∷ xs) h =
    let parts = and_parts (p x) (list_all p xs) h in
    let rest = all-kept p keep xs parts.1 in
    cond_both (keep x) (x ∷ filter keep xs) (filter keep xs) (λ ys. list_all p ys ≡ true)
    (λ _. and_from (p x) (list_all p (filter keep xs)) parts.0 rest) (λ _. rest)

all-of : {A B : Type 0} (p : B → Bool) (f : A → List B) → ((x : A) → list_all p (f x) ≡ true) → (o : Option A) → list_all p (option_map_or f o []) ≡ true
all-of p f each None = refl
all-of p f each (Some x) = each x

-- ---- names

choose : (c : Bool) (xs ys : List ℕ) → is_plain xs ≡ true → (c ≡ false → is_plain ys ≡ true) → is_plain (if c then xs else ys) ≡ true
choose true xs ys h k = h
choose false xs ys h k = k refl

above : (b : ℕ) → is_ascii_control b ≡ false → nat_lt 31 b ≡ true
above b h = grind (arith, nat_tests)

byte-plain : (b : ℕ) → is_plain (escaped_byte b) ≡ true
byte-plain b =
    choose (b == 10) (codes "\\n") _ refl (λ _.
    choose (is_ascii_control b) (codes " ") _ refl (λ h.
    let one = and_from (nat_lt 31 b) true (above b h) refl in
    choose (is_special b) (92 ∷ b ∷ []) (b ∷ []) one (λ _. one)))

name-plain : (name : List ℕ) → is_plain (escaped name) ≡ true
name-plain name = all-flat (nat_lt 31) escaped_byte byte-plain name

-- ---- numbers and dates

digit-plain : (upper : Bool) (d : ℕ) → nat_lt 31 (digit_glyph upper d) ≡ true
digit-plain upper d = by_case (nat_lt d 10) upper
  where
    by_case : (b u : Bool) → nat_lt 31 (if b then 48 + d else (if u then 55 + d else 87 + d)) ≡ true
    by_case true u = lt-ltb 31 (48 + d) (omega arith)
    by_case false true = lt-ltb 31 (55 + d) (omega arith)
    by_case false false = lt-ltb 31 (87 + d) (omega arith)

digits-plain : (k n : ℕ) (behind : List ℕ) → is_plain behind ≡ true → is_plain (digits_onto k 10 false n behind) ≡ true
digits-plain zero n behind h = h
digits-plain (suc k) n behind h =
    let digit : ℕ = digit_glyph false (n % 10) in
    let more : is_plain (digit ∷ behind) ≡ true = and_from (nat_lt 31 digit) (is_plain behind) (digit-plain false (n % 10)) h in
    choose (n / 10 == 0) (digit ∷ behind) _ more (λ _. digits-plain k (n / 10) (digit ∷ behind) more)

number-plain : (n : ℕ) → is_plain (decimal n) ≡ true
unfolding digits
number-plain n = digits-plain 64 n [] refl

pad-plain : (n : ℕ) → is_plain (pad2 n) ≡ true
pad-plain n =
    and_from (nat_lt 31 (48 + n / 10)) (is_plain ((48 + n % 10) ∷ [])) (lt-ltb 31 (48 + n / 10) (omega arith))
    (and_from (nat_lt 31 (48 + n % 10)) true (lt-ltb 31 (48 + n % 10) (omega arith)) refl)

pads-plain : (n : ℕ) → is_plain (pad4 n) ≡ true
pads-plain n = all-both (nat_lt 31) (pad2 (n / 100)) (pad2 (n % 100)) (pad-plain (n / 100)) (pad-plain (n % 100))

year-plain : (y : ℤ) → is_plain (year_text y) ≡ true
year-plain (pos n) = pads-plain n
year-plain (negsuc n) = pads-plain (suc n)

date-plain : (d : Date) → is_plain (date_text d) ≡ true
date-plain d =
    let plain = nat_lt 31 in
    all-both plain (((year_text d.year ++ 45 ∷ []) ++ pad2 d.month) ++ 45 ∷ []) (pad2 d.day)
    (all-both plain ((year_text d.year ++ 45 ∷ []) ++ pad2 d.month) (45 ∷ [])
    (all-both plain (year_text d.year ++ 45 ∷ []) (pad2 d.month) (all-both plain (year_text d.year) (45 ∷ []) (year-plain d.year) refl) (pad-plain d.month)) refl) (pad-plain d.day)

day-plain : (d : Date) → is_plain (date_digits d) ≡ true
day-plain d = all-kept (nat_lt 31) (λ b. not (b == 45)) (date_text d) (date-plain d)

-- ---- lines

abbrev are_plain : List Row → Bool
are_plain lines = list_all (λ (line : Row). list_all is_plain line) lines

lines-plain : (day patient surgeon minutes theatre room : List ℕ) → is_plain day ≡ true → is_plain patient ≡ true → is_plain surgeon ≡ true
    → is_plain minutes ≡ true → is_plain theatre ≡ true → is_plain room ≡ true → are_plain (event_lines day patient surgeon minutes theatre room) ≡ true
lines-plain day patient surgeon minutes theatre room d p s m t r = rw (d, p, s, m, t, r) refl

module _ (I : Draft) (dates : List (Option Date)) (P : Timetable) where
  event-plain : (date : Date) (t p : ℕ) → are_plain (event I P (date_digits date) t p) ≡ true
  unfolding event
  event-plain date t p =
      all-of (λ (line : Row). list_all is_plain line) _ (λ (a : Patient).
      lines-plain (date_digits date) (escaped a.id) (escaped (surgeon_id I a.surgeon_id.0)) (decimal a.surgery_duration) (escaped (theatre_id I t)) (escaped (room_of I P p))
      (day-plain date) (name-plain a.id) (name-plain (surgeon_id I a.surgeon_id.0)) (number-plain a.surgery_duration) (name-plain (theatre_id I t)) (name-plain (room_of I P p)))
      (slice_get I.patients p)

  day-lines : (t d : ℕ) → are_plain (events_of_day I dates P t d) ≡ true
  day-lines t d =
      all-of (λ (line : Row). list_all is_plain line) _ (λ date.
      all-flat (λ (line : Row). list_all is_plain line) (event I P (date_digits date) t) (event-plain date t) (operated I P t d))
      (known_date dates d)

  theatre-lines : (t : ℕ) → are_plain (events_of_theatre I dates P t) ≡ true
  theatre-lines t = all-flat (λ (line : Row). list_all is_plain line) (events_of_day I dates P t) (day-lines t) (range_with_len 0 I.days)

  pub nothing-ends-a-line : NothingEndsALine I dates P
  nothing-ends-a-line =
      let plain = λ (line : Row). list_all is_plain line in
      let events = rows_below (theatre_count I) (events_of_theatre I dates P) in
      let end = (codes "END:VCALENDAR" ∷ []) ∷ [] in
      all-both plain calendar_head (events ++ end) refl
      (all-both plain events end (all-flat plain (events_of_theatre I dates P) theatre-lines (range_with_len 0 (theatre_count I))) refl)
