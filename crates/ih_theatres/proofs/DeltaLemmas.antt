-- What a theatre and a surgeon have more on a placement's day of admission with the patient there than without.
use Rattle.std.proofs.Common.{◌≡◌, ℕ, ◌-◌, ◌<◌, refl, arith, sym, ap, ◌∙◌, Bool, true, false, List, length, Option, Some, None}
use Rattle.std.specs.Prelude.{◌&&◌, ◌||◌, ◌==◌, map, not, option_map}
use Rattle.std.specs.List.{list_any}
use Rattle.std.proofs.lemmas.Bool.{eq-eqb, and_from, and_right}
use Rattle.ih_tables.specs.declared.drafts.Draft.{Draft}
use Rattle.ih_tables.specs.declared.ids.PatientNo.{PatientNo}
use Rattle.ih_tables.specs.declared.ids.TheatreNo.{TheatreNo}
use Rattle.ih_tables.specs.declared.ids.SurgeonNo.{SurgeonNo}
use Rattle.ih_tables.specs.declared.ids.Day.{Day}
use Rattle.ih_tables.specs.declared.cells.Cell.{Cell}
use Rattle.ih_tables.specs.declared.cells.Cell.TheVariants.{TheatreDay, SurgeonDay}
use Rattle.ih_tables.specs.Bills.{sub_bills}
use Rattle.ih_tables.specs.Sizes.{patient_count, theatre_count}
use Rattle.ih_links.specs.Lists.{has, without, with_if, list_of}
use Rattle.ih_plan.specs.declared.moves.Placement.{Placement}
use Rattle.ih_plan.specs.declared.moves.Write.TheVariants.{SetStay}
use Rattle.ih_plan.specs.Timetable.{Timetable, stay_of}
use Rattle.ih_plan.specs.Writes.{put}
use Rattle.ih_plan.specs.BillOf.{as_bill, Counts}
use Rattle.ih_plan.specs.Sums.{bit, count_below}
use Rattle.ih_plan.specs.Cells.{part_at, delta_at}
use Rattle.ih_plan.specs.Costs.{operated_in, admitted_on, is_number, surgeon_of, minutes, is_empty, theatre_availability, surgeon_maximum}
use Rattle.ih_plan.proofs.Entries.{stay_of-other, stay_of-same}
use Rattle.ih_theatres.specs.declared.theatres.Theatres.{Theatres}
use Rattle.ih_theatres.specs.Days.{day_number, theatre_at}
use Rattle.ih_theatres.specs.Ledger.{IsLedgerOf}
use Rattle.ih_theatres.specs.Marks.{is_marked}
use Rattle.ih_theatres.specs.Parts.{theatre_part, surgeon_part}
use Rattle.ih_theatres.proofs.OtherPatients.{theatre-at, surgeon-at}
use Rattle.ih_theatres.proofs.PartLemmas.{theatre-each, surgeon-each}

-- ---- whether the patient, whose stay is known, is in a day's list

module _ {I : Draft} {P : Timetable} {l : Theatres} (stands : IsLedgerOf I P l) (p : PatientNo) (old : Option Placement)
    (stay : stay_of P p.0 ≡ old) (d : Day) (day : d.0 < I.days)
    (was : Bool) (today : ℕ) where
  pub theatre-was : (t : TheatreNo) → was ≡ operated_in t.0 d.0 old → today ≡ day_number I t.0 d.0 → was ≡ has p.0 (list_of l.theatre_days today)
  theatre-was t was_is today_is =
      was_is ∙ sym (ap (λ h. has p.0 (list_of l.theatre_days h)) today_is ∙ (theatre-each stands t.0 d.0 day p.0 ∙ ap (operated_in t.0 d.0) stay))

  pub surgeon-was : (s : SurgeonNo) → was ≡ (is_number (surgeon_of I p.0) s.0 && admitted_on d.0 old) → today ≡ day_number I s.0 d.0 → was ≡ has p.0 (list_of l.surgeon_days today)
  surgeon-was s was_is today_is =
      was_is
      ∙ sym (ap (λ h. has p.0 (list_of l.surgeon_days h)) today_is
      ∙ (surgeon-each stands s.0 d.0 day p.0 ∙ ap (λ o. is_number (surgeon_of I p.0) s.0 && admitted_on d.0 o) stay))

-- ---- the deltas

from-parts : (I : Draft) (P : Timetable) (p : PatientNo) (at : Placement) (c : Cell) (less more : Counts) → less ≡ part_at I (put (SetStay p None) P) c
    → more ≡ part_at I (put (SetStay p (Some at)) P) c → sub_bills (as_bill more) (as_bill less) ≡ delta_at I P p at c
from-parts I P p at c less more from to =
    ap (λ k. sub_bills (as_bill k) (as_bill less)) to ∙ ap (λ k. sub_bills (as_bill (part_at I (put (SetStay p (Some at)) P) c)) (as_bill k)) from

module _ {I : Draft} {P : Timetable} {l : Theatres} (stands : IsLedgerOf I P l) (p : PatientNo) (known : p.0 < patient_count I) (at : Placement) (day : at.day.0 < I.days) where
  others : (s : Option Placement) (x : ℕ) → (x ≡ p.0 → ⊥) → stay_of (put (SetStay p s) P) x ≡ stay_of P x
  others s x ne = stay_of-other P p s x ne

  own : (s : Option Placement) → stay_of (put (SetStay p s) P) p.0 ≡ s
  own s = stay_of-same P p s (let sizes : length P.stays ≡ patient_count I = stands.plan.stays in omega arith)

  module _ (today most : ℕ) (today_is : today ≡ day_number I at.theatre.0 at.day.0) (most_is : most ≡ theatre_availability I at.theatre.0 at.day.0) where
    abbrev patients : Bool → List ℕ
    patients b = with_if b p.0 (without p.0 (list_of l.theatre_days today))

    theatre-day : (s : Option Placement) (b : Bool) → operated_in at.theatre.0 at.day.0 s ≡ b → (over used : ℕ) → over ≡ minutes I (patients b) - most → used ≡ bit (not (is_empty (patients b)))
        → theatre_part over used ≡ part_at I (put (SetStay p s) P) (TheatreDay at.theatre at.day)
    theatre-day s b is over used over_is used_is =
        theatre-at stands p known (put (SetStay p s) P) (others s) at.theatre at.day b over used day (ap (operated_in at.theatre.0 at.day.0) (own s) ∙ is)
        (rw (today_is, most_is) at over_is) (rw today_is at used_is)

    pub theatre-delta : (over_less used_less over_more used_more : ℕ)
        → over_less ≡ minutes I (patients false) - most → used_less ≡ bit (not (is_empty (patients false)))
        → over_more ≡ minutes I (patients true) - most → used_more ≡ bit (not (is_empty (patients true)))
        → sub_bills (as_bill (theatre_part over_more used_more)) (as_bill (theatre_part over_less used_less)) ≡ delta_at I P p at (TheatreDay at.theatre at.day)
    theatre-delta over_less used_less over_more used_more ol ul om um =
        from-parts I P p at (TheatreDay at.theatre at.day) (theatre_part over_less used_less) (theatre_part over_more used_more)
        (theatre-day None false refl over_less used_less ol ul)
        (theatre-day (Some at) true (and_from (at.theatre.0 == at.theatre.0) (at.day.0 == at.day.0) (eq-eqb at.theatre.0 at.theatre.0 refl) (eq-eqb at.day.0 at.day.0 refl)) over_more used_more om um)

  module _ (s : SurgeonNo) (is_own : surgeon_of I p.0 ≡ Some s.0) (today most : ℕ) (today_is : today ≡ day_number I s.0 at.day.0) (most_is : most ≡ surgeon_maximum I s.0 at.day.0)
      (marks : ℕ) (marked : (t : ℕ) → is_marked marks t ≡ list_any (λ o. is_number o t) (map (theatre_at l.theatres.items) (without p.0 (list_of l.surgeon_days today)))) where
    abbrev operated_then : Bool → List ℕ
    operated_then b = with_if b p.0 (without p.0 (list_of l.surgeon_days today))

    abbrev theatres_then : Bool → Option Placement → ℕ
    theatres_then b o = count_below (theatre_count I) (λ t. is_marked marks t || (b && is_number (option_map (λ (at : Placement). at.theatre.0) o) t))

    surgeon-day : (o : Option Placement) (b : Bool) → (is_number (surgeon_of I p.0) s.0 && admitted_on at.day.0 o) ≡ b
        → (over transfers : ℕ) → over ≡ minutes I (operated_then b) - most → transfers ≡ theatres_then b o - 1 → surgeon_part over transfers ≡ part_at I (put (SetStay p o) P) (SurgeonDay s at.day)
    surgeon-day o b is over transfers over_is transfers_is =
        surgeon-at stands p known (put (SetStay p o) P) (others o) s at.day b o marks over transfers day (own o) is
        (rw today_is at marked) (rw (today_is, most_is) at over_is) transfers_is

    pub surgeon-delta : (over_less transfers_less over_more transfers_more : ℕ)
        → over_less ≡ minutes I (operated_then false) - most → transfers_less ≡ theatres_then false None - 1
        → over_more ≡ minutes I (operated_then true) - most → transfers_more ≡ theatres_then true (Some at) - 1
        → sub_bills (as_bill (surgeon_part over_more transfers_more)) (as_bill (surgeon_part over_less transfers_less)) ≡ delta_at I P p at (SurgeonDay s at.day)
    surgeon-delta over_less transfers_less over_more transfers_more ol tl om tm =
        let same : is_number (surgeon_of I p.0) s.0 ≡ true = ap (λ o. is_number o s.0) is_own ∙ eq-eqb s.0 s.0 refl in
        from-parts I P p at (SurgeonDay s at.day) (surgeon_part over_less transfers_less) (surgeon_part over_more transfers_more)
        (surgeon-day None false (and_right (is_number (surgeon_of I p.0) s.0) false refl) over_less transfers_less ol tl)
        (surgeon-day (Some at) true (and_from (is_number (surgeon_of I p.0) s.0) (at.day.0 == at.day.0) same (eq-eqb at.day.0 at.day.0 refl)) over_more transfers_more om tm)
