-- The patients of a day with one of them there or not, from the list of the others.
use Rattle.std.proofs.Common.{◌≡◌, ℕ, ◌+◌, ◌-◌, ◌<◌, refl, arith, sym, ap, ◌∙◌, Bool, true, false, List, [], ◌∷◌, ◌++◌, length, inl, inr, Option, Some, None}
use Rattle.std.specs.Prelude.{◌&&◌, ◌||◌, ◌==◌, map, not, IfSome, nat_lt, option_map}
use Rattle.std.specs.List.{list_any}
use Rattle.std.proofs.lemmas.Bool.{cases_lt, cases_Bool, eq-eqb, ne_eqb, lt-ltb, le-ltb, or_right}
use Rattle.std.proofs.lemmas.List.Sums.{sum_by-append}
use Rattle.ih_tables.specs.declared.drafts.Draft.{Draft}
use Rattle.ih_tables.specs.declared.ids.PatientNo.{PatientNo}
use Rattle.ih_tables.specs.declared.ids.TheatreNo.{TheatreNo}
use Rattle.ih_tables.specs.declared.ids.SurgeonNo.{SurgeonNo}
use Rattle.ih_tables.specs.declared.ids.Day.{Day}
use Rattle.ih_tables.specs.declared.cells.Cell.TheVariants.{TheatreDay, SurgeonDay}
use Rattle.ih_tables.specs.Sizes.{patient_count, theatre_count}
use Rattle.ih_links.specs.Lists.{AreNodes, IsOnce, has, without, with_if, list_of}
use Rattle.ih_links.proofs.Members.{apart, has-here, has-there, has-without_self, length-without, without-none}
use Rattle.std.proofs.Math.Bool.{or-false}
use Rattle.ih_links.proofs.Without.{sum-without, with-each, with-known}
use Rattle.ih_plan.specs.declared.moves.Placement.{Placement}
use Rattle.ih_plan.specs.Timetable.{Timetable, stay_of}
use Rattle.ih_plan.specs.Sums.{bit, count_below, which_below}
use Rattle.ih_plan.specs.Cells.{part_at, part_of, content_of}
use Rattle.ih_plan.specs.Costs.{operated, operated_by, operated_in, admitted_on, is_number, surgeon_of, minutes, duration_of, is_empty, theatre_availability, surgeon_maximum, theatre_of, theatres_used}
use Rattle.ih_plan.proofs.ListedBelow.{tagged-keys, tagged-values}
use Rattle.ih_plan.proofs.SumLemmas.{sum_below-same, sum_below-but}
use Rattle.ih_theatres.specs.declared.theatres.Theatres.{Theatres}
use Rattle.ih_theatres.specs.Days.{day_number, theatre_at}
use Rattle.ih_theatres.specs.Ledger.{IsLedgerOf}
use Rattle.ih_theatres.specs.Marks.{is_marked, is_unmarked}
use Rattle.ih_theatres.specs.Parts.{theatre_part, surgeon_part}
use Rattle.ih_theatres.proofs.DayLemmas.{sum-of_passing, any-of_passing, empty-of_passing}
use Rattle.ih_theatres.proofs.PartLemmas.{theatre-each, surgeon-each, theatre-known}

-- ---- a list without one

pub minutes-there : (I : Draft) (p : ℕ) (xs : List ℕ) → IsOnce xs → has p xs ≡ true → minutes I xs ≡ minutes I (without p xs) + duration_of I p
minutes-there I p xs once there = sym (sum-without (duration_of I) p xs once there)

pub minutes-away : (I : Draft) (p : ℕ) (xs : List ℕ) → has p xs ≡ false → minutes I xs ≡ minutes I (without p xs)
minutes-away I p xs away = ap (minutes I) (sym (without-none p xs away))

not-empty : (xs : List ℕ) → not (is_empty xs) ≡ nat_lt 0 (length xs)
not-empty [] = refl
not-empty (x ∷ xs) = sym (lt-ltb 0 (length (x ∷ xs)) (omega arith))

less-by : (a b c d : ℕ) → a + d ≡ b + c → nat_lt a b ≡ nat_lt c d
less-by a b c d e = elim (cases_lt a b) [
  | inl h ↦ lt-ltb a b h ∙ sym (lt-ltb c d (omega arith))
  | inr h ↦ le-ltb a b h ∙ sym (le-ltb c d (omega arith))
]

-- others are in a list that is longer than the one by itself
pub others-there : (p : ℕ) (xs : List ℕ) → IsOnce xs → nat_lt (bit (has p xs)) (length xs) ≡ not (is_empty (without p xs))
others-there p xs once = elim (cases_Bool (has p xs)) [
  | inl there ↦
      let less = length-without p xs once there in
      ap (λ b. nat_lt (bit b) (length xs)) there ∙ (less-by 1 (length xs) 0 (length (without p xs)) (omega arith) ∙ sym (not-empty (without p xs)))
  | inr away ↦ ap (λ b. nat_lt (bit b) (length xs)) away ∙ (ap (λ ys. nat_lt 0 (length ys)) (sym (without-none p xs away)) ∙ sym (not-empty (without p xs)))
]

pub more-minutes : (I : Draft) (xs : List ℕ) (p : ℕ) → minutes I (xs ++ p ∷ []) ≡ minutes I xs + duration_of I p
more-minutes I xs p = let e = sum_by-append (duration_of I) xs (p ∷ []) in omega arith

-- ---- theatres

any-map : (f : ℕ → Option ℕ) (q : Option ℕ → Bool) (xs : List ℕ) → list_any q (map f xs) ≡ list_any (λ x. q (f x)) xs
any-map f q [] = refl
any-map f q (x ∷ xs) = ap (λ b. q (f x) || b) (any-map f q xs)

any-same : (q r : ℕ → Bool) (xs : List ℕ) → ((x : ℕ) → has x xs ≡ true → q x ≡ r x) → list_any q xs ≡ list_any r xs
any-same q r [] same = refl
any-same q r (x ∷ xs) same =
    let here = same x (has-here x x xs refl) in
    let rest = any-same q r xs (λ y there. same y (has-there y x xs there)) in
    rw (here, rest) refl

any-with : (q : ℕ → Bool) (b : Bool) (x : ℕ) (xs : List ℕ) → list_any q (with_if b x xs) ≡ (list_any q xs || (b && q x))
any-with q true x [] = or-false (q x)
any-with q true x (y ∷ ys) = more (q y) (any-with q true x ys)
  where
    more : (b : Bool) → list_any q (ys ++ x ∷ []) ≡ (list_any q ys || q x) → (b || list_any q (ys ++ x ∷ [])) ≡ ((b || list_any q ys) || q x)
    more true e = refl
    more false e = e
any-with q false x xs = sym (or-false (list_any q xs))

-- one number more is counted where it isn't marked
pub count-more : (n : ℕ) (marks : ℕ) (there : Bool) (o : Option ℕ) → IfSome o (λ m. m < n)
    → count_below n (is_marked marks) + bit (there && is_unmarked marks o) ≡ count_below n (λ t. is_marked marks t || (there && is_number o t))
count-more n marks false o inside = let e = sum_below-same n (λ t. bit (is_marked marks t)) (λ t. bit (is_marked marks t || false)) (λ t h. ap bit (sym (or-false (is_marked marks t)))) in omega arith
count-more n marks true None inside = let e = sum_below-same n (λ t. bit (is_marked marks t)) (λ t. bit (is_marked marks t || false))
    (λ t h. ap bit (sym (or-false (is_marked marks t)))) in omega arith
count-more n marks true (Some m) inside =
    let but = sum_below-but n m (λ t. bit (is_marked marks t)) (λ t. bit (is_marked marks t || (m == t))) inside
    (λ t h ne. ap bit (sym (ap (λ b. is_marked marks t || b) (ne_eqb m t (λ e. ne (sym e))) ∙ or-false (is_marked marks t)))) in
    let own : bit (is_marked marks m || (m == m)) ≡ 1 = ap bit (or_right (is_marked marks m) (m == m) (eq-eqb m m refl)) in
    let turned = either (is_marked marks m) in
    omega arith
  where
    either : (b : Bool) → bit (not b) + bit b ≡ 1
    either true = refl
    either false = refl

pub theatre-inside : (n : ℕ) (stay : Option Placement) → IfSome stay (λ (at : Placement). at.theatre.0 < n) → IfSome (option_map (λ (at : Placement). at.theatre.0) stay) (λ m. m < n)
theatre-inside n None fits = tt
theatre-inside n (Some at) fits = fits

-- ---- the parts at a timetable at which the others' stays are the same

module _ {I : Draft} {P : Timetable} {l : Theatres} (stands : IsLedgerOf I P l) (p : PatientNo) (known : p.0 < patient_count I)
    (Q : Timetable) (same : (x : ℕ) → (x ≡ p.0 → ⊥) → stay_of Q x ≡ stay_of P x) where
  pub theatre-at : (t : TheatreNo) (d : Day) (b : Bool) (over used : ℕ) → d.0 < I.days → operated_in t.0 d.0 (stay_of Q p.0) ≡ b
      → over ≡ minutes I (with_if b p.0 (without p.0 (list_of l.theatre_days (day_number I t.0 d.0)))) - theatre_availability I t.0 d.0
      → used ≡ bit (not (is_empty (with_if b p.0 (without p.0 (list_of l.theatre_days (day_number I t.0 d.0))))))
      → theatre_part over used ≡ part_at I Q (TheatreDay t d)
  unfolding part_of content_of operated
  theatre-at t d b over used dh own over_is used_is =
      let xs = list_of l.theatre_days (day_number I t.0 d.0) in
      let after : ℕ → Bool = λ x. operated_in t.0 d.0 (stay_of Q x) in
      let some = with-known b p.0 xs (stands.theatre_days.known (day_number I t.0 d.0)) known in
      let each = with-each b p.0 xs after own (λ x ne. theatre-each stands t.0 d.0 dh x ∙ sym (ap (operated_in t.0 d.0) (same x ne))) in
      let sum = sum-of_passing some after each (duration_of I) in
      let none = empty-of_passing some after each in
      rw (over_is, used_is, sum, none) refl

  theatres-at : (xs : List ℕ) (passing : ℕ → Bool) (marks : ℕ) (stay : Option Placement) (b : Bool) → AreNodes (patient_count I) (with_if b p.0 (without p.0 xs))
      → ((x : ℕ) → has x (with_if b p.0 (without p.0 xs)) ≡ passing x) → stay_of Q p.0 ≡ stay
      → ((t : ℕ) → is_marked marks t ≡ list_any (λ o. is_number o t) (map (theatre_at l.theatres.items) (without p.0 xs)))
      → count_below (theatre_count I) (λ t. is_marked marks t || (b && is_number (option_map (λ (at : Placement). at.theatre.0) stay) t))
      ≡ theatres_used I (map (theatre_of Q) (which_below (patient_count I) passing))
  theatres-at xs passing marks stay b some each now marked = sum_below-same (theatre_count I)
      (λ t. bit (is_marked marks t || (b && is_number (option_map (λ (at : Placement). at.theatre.0) stay) t)))
      (λ t. bit (list_any (λ o. is_number o t) (map (theatre_of Q) (which_below (patient_count I) passing))))
      (λ t h. ap bit (sym (
      any-map (theatre_of Q) (λ o. is_number o t) (which_below (patient_count I) passing)
      ∙ (sym (any-of_passing some passing each (λ x. is_number (theatre_of Q x) t))
      ∙ (any-with (λ x. is_number (theatre_of Q x) t) b p.0 (without p.0 xs)
      ∙ (ap (λ o. list_any (λ x. is_number (theatre_of Q x) t) (without p.0 xs) || (b && is_number (option_map (λ (at : Placement). at.theatre.0) o) t)) now
      ∙ ap (λ c. c || (b && is_number (option_map (λ (at : Placement). at.theatre.0) stay) t)) (others t)))))))
    where
      known_at : (x : ℕ) → (x ≡ p.0 → ⊥) → theatre_of Q x ≡ theatre_at l.theatres.items x
      known_at x ne = ap (option_map (λ (at : Placement). at.theatre.0)) (same x ne) ∙ sym (ap (λ ts. theatre_at ts x) stands.theatres ∙ theatre-known P x)

      others : (t : ℕ) → list_any (λ x. is_number (theatre_of Q x) t) (without p.0 xs) ≡ is_marked marks t
      others t =
          any-same (λ x. is_number (theatre_of Q x) t) (λ x. is_number (theatre_at l.theatres.items x) t) (without p.0 xs)
          (λ x there. ap (λ o. is_number o t) (known_at x (apart x p.0 (without p.0 xs) there (has-without_self p.0 xs))))
          ∙ (sym (any-map (theatre_at l.theatres.items) (λ o. is_number o t) (without p.0 xs)) ∙ sym (marked t))

  pub surgeon-at : (s : SurgeonNo) (d : Day) (b : Bool) (stay : Option Placement) (marks : ℕ) (over transfers : ℕ) → d.0 < I.days
      → stay_of Q p.0 ≡ stay → (is_number (surgeon_of I p.0) s.0 && admitted_on d.0 stay) ≡ b
      → ((t : ℕ) → is_marked marks t ≡ list_any (λ o. is_number o t) (map (theatre_at l.theatres.items) (without p.0 (list_of l.surgeon_days (day_number I s.0 d.0)))))
      → over ≡ minutes I (with_if b p.0 (without p.0 (list_of l.surgeon_days (day_number I s.0 d.0)))) - surgeon_maximum I s.0 d.0
      → transfers ≡ count_below (theatre_count I) (λ t. is_marked marks t || (b && is_number (option_map (λ (at : Placement). at.theatre.0) stay) t)) - 1
      → surgeon_part over transfers ≡ part_at I Q (SurgeonDay s d)
  unfolding part_of content_of operated_by
  surgeon-at s d b stay marks over transfers dh now own marked over_is transfers_is =
      let xs = list_of l.surgeon_days (day_number I s.0 d.0) in
      let after : ℕ → Bool = λ x. is_number (surgeon_of I x) s.0 && admitted_on d.0 (stay_of Q x) in
      let some = with-known b p.0 xs (stands.surgeon_days.known (day_number I s.0 d.0)) known in
      let each = with-each b p.0 xs after (ap (λ o. is_number (surgeon_of I p.0) s.0 && admitted_on d.0 o) now ∙ own)
      (λ x ne. surgeon-each stands s.0 d.0 dh x ∙ sym (ap (λ o. is_number (surgeon_of I x) s.0 && admitted_on d.0 o) (same x ne))) in
      let sum = sum-of_passing some after each (duration_of I) in
      let met = theatres-at xs after marks stay b some each now marked in
      let keys = tagged-keys (theatre_of Q) (which_below (patient_count I) after) in
      let values = tagged-values (theatre_of Q) (which_below (patient_count I) after) in
      rw (over_is, transfers_is, sum, met, keys, values) refl
