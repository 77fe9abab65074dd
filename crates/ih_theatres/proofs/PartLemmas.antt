-- The parts of the bill, from the lists of a ledger.
use Rattle.std.proofs.Common.{◌≡◌, ℕ, zero, suc, ◌+◌, ◌-◌, ◌*◌, ◌<◌, refl, sym, ap, ◌∙◌, Bool, true, false, List, [], ◌∷◌, Option, Some, None}
use Rattle.std.specs.Prelude.{◌&&◌, ◌||◌, ◌==◌, map, not, option_map, option_and_then, slice_get, slice_index_or}
use Rattle.std.specs.List.{list_any}
use Rattle.std.specs.Cmp.{both_ways}
use Rattle.std.proofs.Math.ListN.{get_or-map}
use Rattle.std.proofs.lemmas.Bool.{eq-eqb, eqb-true, and_parts}
use Rattle.std.proofs.lemmas.Nat.{same_from_place}
use Rattle.ih_tables.specs.declared.drafts.Draft.{Draft}
use Rattle.ih_tables.specs.declared.ids.TheatreNo.{TheatreNo}
use Rattle.ih_tables.specs.declared.ids.SurgeonNo.{SurgeonNo}
use Rattle.ih_tables.specs.declared.ids.Day.{Day}
use Rattle.ih_tables.specs.declared.cells.Cell.TheVariants.{TheatreDay, SurgeonDay}
use Rattle.ih_tables.specs.Sizes.{patient_count, theatre_count}
use Rattle.ih_links.specs.Lists.{AreNodes, has, list_of, is_at}
use Rattle.ih_plan.specs.declared.moves.Placement.{Placement}
use Rattle.ih_plan.specs.Timetable.{Timetable, stay_of}
use Rattle.ih_plan.specs.Sums.{bit, which_below}
use Rattle.ih_plan.specs.Costs.{operated, operated_by, operated_in, admitted_on, is_number, surgeon_of, minutes, duration_of, is_empty, theatre_availability, surgeon_maximum, theatre_of, theatres_used}
use Rattle.ih_plan.specs.Cells.{part_at, part_of, content_of}
use Rattle.ih_plan.proofs.ListedBelow.{tagged-keys, tagged-values}
use Rattle.ih_plan.proofs.SumLemmas.{sum_below-same}
use Rattle.ih_theatres.specs.declared.theatres.Theatres.{Theatres}
use Rattle.ih_theatres.specs.Days.{day_number, theatre_day, surgeon_day, theatre_at}
use Rattle.ih_theatres.specs.Ledger.{IsLedgerOf, theatre_in}
use Rattle.ih_theatres.specs.Parts.{theatre_part, surgeon_part}
use Rattle.ih_theatres.proofs.DayLemmas.{sum-of_passing, any-of_passing, empty-of_passing}

-- ---- the theatre of a patient

pub stay-read : (stays : List (Option Placement)) (p : ℕ) → option_and_then (λ (s : Option Placement). s) (slice_get stays p) ≡ slice_index_or stays p None
stay-read [] p = refl
stay-read (s ∷ stays) zero = refl
stay-read (s ∷ stays) (suc p) = stay-read stays p

pub theatre-known : (P : Timetable) (p : ℕ) → theatre_at (map theatre_in P.stays) p ≡ theatre_of P p
theatre-known P p =
    ap (option_map (λ (t : TheatreNo). t.0)) (get_or-map theatre_in P.stays p None)
    ∙ (number (slice_index_or P.stays p None) ∙ ap (option_map (λ (at : Placement). at.theatre.0)) (sym (stay-read P.stays p)))
  where
    number : (o : Option Placement) → option_map (λ (t : TheatreNo). t.0) (theatre_in o) ≡ option_map (λ (at : Placement). at.theatre.0) o
    number None = refl
    number (Some at) = refl

-- ---- who is in the list of a day

-- two days that have one number have one row and one day
pub one-number : (a b r c w : ℕ) → b < w → c < w → (a * w + b == r * w + c) ≡ ((a == r) && (b == c))
one-number a b r c w bh ch = both_ways (a * w + b == r * w + c) ((a == r) && (b == c))
    (λ e. let same = same_from_place a b r c w bh ch (eqb-true (a * w + b) (r * w + c) e) in
    let row = eq-eqb a r same.0 in
    let day = eq-eqb b c same.1 in
    rw (row, day) refl)
    (λ e. let both = and_parts (a == r) (b == c) e in
    let row = eqb-true a r both.0 in
    let day = eqb-true b c both.1 in
    eq-eqb (a * w + b) (r * w + c) (rw (row, day) refl))

module _ {I : Draft} {P : Timetable} {l : Theatres} (stands : IsLedgerOf I P l) where
  pub theatre-each : (t d : ℕ) → d < I.days → (x : ℕ) → has x (list_of l.theatre_days (day_number I t d)) ≡ operated_in t d (stay_of P x)
  theatre-each t d dh x = stands.theatre_days.each (day_number I t d) x ∙ by_case (stay_of P x) refl
    where
      by_case : (o : Option Placement) → stay_of P x ≡ o → is_at (day_number I t d) (theatre_day I o) ≡ operated_in t d o
      by_case None e = refl
      by_case (Some at) e = one-number at.theatre.0 at.day.0 t d I.days (stands.plan.placed x at e).day dh

  pub surgeon-each : (s d : ℕ) → d < I.days → (x : ℕ)
      → has x (list_of l.surgeon_days (day_number I s d)) ≡ (is_number (surgeon_of I x) s && admitted_on d (stay_of P x))
  surgeon-each s d dh x = stands.surgeon_days.each (day_number I s d) x ∙ by_case (surgeon_of I x) (stay_of P x) refl
    where
      neither : (b : Bool) → false ≡ (b && false)
      neither true = refl
      neither false = refl

      by_case : (n : Option ℕ) (o : Option Placement) → stay_of P x ≡ o → is_at (day_number I s d) (surgeon_day I n o) ≡ (is_number n s && admitted_on d o)
      by_case None None e = refl
      by_case (Some n) None e = neither (n == s)
      by_case None (Some at) e = refl
      by_case (Some n) (Some at) e = one-number n at.day.0 s d I.days (stands.plan.placed x at e).day dh

  -- ---- the parts

  pub theatre-part : (t : TheatreNo) (d : Day) (over used : ℕ) → d.0 < I.days
      → over ≡ minutes I (list_of l.theatre_days (day_number I t.0 d.0)) - theatre_availability I t.0 d.0
      → used ≡ bit (not (is_empty (list_of l.theatre_days (day_number I t.0 d.0))))
      → theatre_part over used ≡ part_at I P (TheatreDay t d)
  unfolding part_of content_of operated
  theatre-part t d over used dh over_is used_is =
      let known = stands.theatre_days.known (day_number I t.0 d.0) in
      let each = theatre-each t.0 d.0 dh in
      let sum = sum-of_passing known (λ p. operated_in t.0 d.0 (stay_of P p)) each (duration_of I) in
      let none = empty-of_passing known (λ p. operated_in t.0 d.0 (stay_of P p)) each in
      rw (over_is, used_is, sum, none) refl

  -- the theatres that the patients of a list have, in any order
  theatres-same : (xs : List ℕ) (p : ℕ → Bool) → AreNodes (patient_count I) xs → ((x : ℕ) → has x xs ≡ p x)
      → theatres_used I (map (theatre_at l.theatres.items) xs) ≡ theatres_used I (map (theatre_of P) (which_below (patient_count I) p))
  theatres-same xs p known each = sum_below-same (theatre_count I)
      (λ t. bit (list_any (λ o. is_number o t) (map (theatre_at l.theatres.items) xs)))
      (λ t. bit (list_any (λ o. is_number o t) (map (theatre_of P) (which_below (patient_count I) p))))
      (λ t h. ap bit (any-map (λ o. is_number o t) xs ∙ any-of_passing known p each (λ x. is_number (theatre_of P x) t) ∙ sym (of-map (λ o. is_number o t) (which_below (patient_count I) p))))
    where
      of-map : (q : Option ℕ → Bool) (ys : List ℕ) → list_any q (map (theatre_of P) ys) ≡ list_any (λ x. q (theatre_of P x)) ys
      of-map q [] = refl
      of-map q (y ∷ ys) = ap (λ b. q (theatre_of P y) || b) (of-map q ys)

      known_at : (x : ℕ) → theatre_at l.theatres.items x ≡ theatre_of P x
      known_at x = ap (λ ts. theatre_at ts x) stands.theatres ∙ theatre-known P x

      any-map : (q : Option ℕ → Bool) (ys : List ℕ) → list_any q (map (theatre_at l.theatres.items) ys) ≡ list_any (λ x. q (theatre_of P x)) ys
      any-map q [] = refl
      any-map q (y ∷ ys) = let here = known_at y in let rest = any-map q ys in rw (here, rest) refl

  pub surgeon-part : (s : SurgeonNo) (d : Day) (over transfers : ℕ) → d.0 < I.days
      → over ≡ minutes I (list_of l.surgeon_days (day_number I s.0 d.0)) - surgeon_maximum I s.0 d.0
      → transfers ≡ theatres_used I (map (theatre_at l.theatres.items) (list_of l.surgeon_days (day_number I s.0 d.0))) - 1
      → surgeon_part over transfers ≡ part_at I P (SurgeonDay s d)
  unfolding part_of content_of operated_by
  surgeon-part s d over transfers dh over_is transfers_is =
      let known = stands.surgeon_days.known (day_number I s.0 d.0) in
      let passing : ℕ → Bool = λ p. is_number (surgeon_of I p) s.0 && admitted_on d.0 (stay_of P p) in
      let each = surgeon-each s.0 d.0 dh in
      let sum = sum-of_passing known passing each (duration_of I) in
      let met = theatres-same (list_of l.surgeon_days (day_number I s.0 d.0)) passing known each in
      let keys = tagged-keys (theatre_of P) (which_below (patient_count I) passing) in
      let values = tagged-values (theatre_of P) (which_below (patient_count I) passing) in
      rw (over_is, transfers_is, sum, met, keys, values) refl
