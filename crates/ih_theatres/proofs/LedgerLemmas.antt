-- What an empty timetable, a patient's coming and a patient's going leave of a ledger.
use Rattle.std.proofs.Common.{false, ◌≡◌, ℕ, zero, suc, ◌+◌, ◌-◌, ◌*◌, ◌≤◌, ◌<◌, refl, arith, sym, ap, ◌∙◌, true, [], ◌∷◌, ◌++◌, List, Option, Some, None, length, replicate, mul_comm}
use Rattle.std.specs.Prelude.{map, option_map, slice_get, slice_set, slice_index_or, All, IfSome}
use Rattle.std.proofs.Math.ListN.{get_or-map}
use Rattle.std.proofs.lemmas.List.{map-set, length-replicate}
use Rattle.std.proofs.lemmas.List.Elements.{All-from_get_or}
use Rattle.std.proofs.lemmas.Nat.{mul-add-lt}
use Rattle.std.specs.List.{list_any}
use Rattle.std.proofs.lemmas.Bool.{ne_eqb}
use Rattle.ih_tables.specs.declared.drafts.Draft.{Draft}
use Rattle.ih_tables.specs.declared.drafts.Patient.{Patient}
use Rattle.ih_tables.specs.declared.ids.PatientNo.{PatientNo}
use Rattle.ih_tables.specs.declared.ids.TheatreNo.{TheatreNo}
use Rattle.ih_tables.specs.Sizes.{patient_count, theatre_count, surgeon_count}
use Rattle.ih_tables.specs.Valid.{IsValid, IsPatient}
use Rattle.ih_links.specs.Lists.{LinksState, list_of, has, without, is_at}
use Rattle.ih_plan.specs.declared.moves.Placement.{Placement}
use Rattle.ih_plan.specs.declared.moves.Write.TheVariants.{SetStay}
use Rattle.ih_plan.specs.Timetable.{Timetable, empty, stay_of, IsPlacement}
use Rattle.ih_plan.specs.Writes.{put}
use Rattle.ih_plan.specs.Costs.{surgeon_of, duration_of, is_number, minutes}
use Rattle.ih_plan.proofs.Entries.{stay_of-other, stay_of-same}
use Rattle.ih_plan.proofs.Overtime.{from-all}
use Rattle.ih_plan.proofs.ReadLemmas.{index-copies}
use Rattle.ih_plan.proofs.PlanRanges.{empty-plan, put-plan, stay-plan}
use Rattle.ih_plan.proofs.Whereabouts.{no-stay}
use Rattle.ih_theatres.specs.declared.theatres.Theatres.{Theatres}
use Rattle.ih_theatres.specs.Days.{AreDays, day_number, theatre_at, theatre_day, surgeon_day}
use Rattle.ih_theatres.specs.Marks.{AreBelow}
use Rattle.ih_theatres.proofs.MarkLemmas.{AreMet}
use Rattle.ih_theatres.specs.Ledger.{IsLedgerOf, theatre_in}
use Rattle.ih_theatres.proofs.Minutes.{duration-is}
use Rattle.ih_theatres.proofs.DayLemmas.{days-linked, days-entered, days-left}
use Rattle.ih_theatres.proofs.MinuteLemmas.{kept-below, kept-is, kept-most, kept-room, kept-enough, minutes-none, minutes-entered, minutes-left}
use Rattle.ih_theatres.proofs.PartLemmas.{stay-read, theatre-known}

-- ---- days

day-below : (I : Draft) (n t d : ℕ) → t < n → d < I.days → day_number I t d < n * I.days
day-below I n t d th dh = rw (mul_comm n I.days) (mul-add-lt t I.days d n th dh)

-- who isn't admitted has no day of a surgeon
no-surgeon_day : (I : Draft) (s : Option ℕ) → surgeon_day I s None ≡ None
no-surgeon_day I None = refl
no-surgeon_day I (Some s) = refl

surgeon-known : (I : Draft) (p : ℕ) (a : Patient) → slice_get I.patients p ≡ Some a → surgeon_of I p ≡ Some a.surgeon_id.0
surgeon-known I p a is = ap (option_map (λ (a : Patient). a.surgeon_id.0)) is

-- ---- the empty timetable

nowhere : (n : ℕ) → replicate n None ≡ map theatre_in (replicate n None)
nowhere zero = refl
nowhere (suc n) = ap (λ ts. None ∷ ts) (nowhere n)

days-none : (I : Draft) (n : ℕ) (day : ℕ → Option ℕ) (v : LinksState) → ((x : ℕ) → day x ≡ None) → v.lists ≡ replicate (n * I.days) [] → v.nodes ≡ patient_count I → AreDays I n day v
days-none I n day v none lists nodes = record {
  heads = ap length lists ∙ length-replicate (n * I.days) [];
  nodes = nodes;
  each = λ h x. ap (λ ls. has x (slice_index_or ls h [])) lists ∙ (ap (has x) (index-copies (n * I.days) h []) ∙ ap (is_at h) (sym (none x)));
  known = λ h. rw (lists, index-copies {X = List ℕ} (n * I.days) h []) record { below = λ x there. absurd (cc); once = tt };
}

pub ledger-new : (I : Draft) (l : Theatres) → l.theatres.items ≡ replicate (patient_count I) None
    → l.theatre_days.lists ≡ replicate (theatre_count I * I.days) [] → l.theatre_days.nodes ≡ patient_count I
    → l.surgeon_days.lists ≡ replicate (surgeon_count I * I.days) [] → l.surgeon_days.nodes ≡ patient_count I
    → l.theatre_minutes.items ≡ replicate (theatre_count I * I.days) 0 → l.surgeon_minutes.items ≡ replicate (surgeon_count I * I.days) 0 → IsLedgerOf I (empty I) l
ledger-new I l theatres t_lists t_nodes s_lists s_nodes t_minutes s_minutes = record {
  plan = empty-plan I;
  theatres = theatres ∙ nowhere (patient_count I);
  theatre_days = days-none I (theatre_count I) (λ p. theatre_day I (stay_of (empty I) p)) l.theatre_days (λ x. ap (theatre_day I) (no-stay I x)) t_lists t_nodes;
  surgeon_days = days-none I (surgeon_count I) (λ p. surgeon_day I (surgeon_of I p) (stay_of (empty I) p)) l.surgeon_days
      (λ x. ap (surgeon_day I (surgeon_of I x)) (no-stay I x) ∙ no-surgeon_day I (surgeon_of I x)) s_lists s_nodes;
  theatre_minutes = minutes-none I (theatre_count I * I.days) l.theatre_days l.theatre_minutes.items t_lists t_minutes;
  surgeon_minutes = minutes-none I (surgeon_count I * I.days) l.surgeon_days l.surgeon_minutes.items s_lists s_minutes;
}

-- ---- theatres

module _ {I : Draft} {P : Timetable} {l : Theatres} (valid : IsValid I) (stands : IsLedgerOf I P l) where
  -- each theatre that a patient has is one of the instance
  pub theatres-few : All (λ t. IfSome t (λ (m : TheatreNo). m.0 < 64)) l.theatres.items
  theatres-few = rw stands.theatres (All-from_get_or (λ t. IfSome t (λ (m : TheatreNo). m.0 < 64)) (map theatre_in P.stays) None
      (λ i h. rw (get_or-map theatre_in P.stays i None) (by_case i (slice_index_or P.stays i None) (stay-read P.stays i))))
    where
      by_case : (i : ℕ) (o : Option Placement) → stay_of P i ≡ o → IfSome (theatre_in o) (λ (m : TheatreNo). m.0 < 64)
      by_case i None e = tt
      by_case i (Some at) e = let few = valid.theatres.len.most in let below = (stands.plan.placed i at e).theatre in omega arith

  -- so are those that are marked
  pub marks-below : (marks : ℕ) (xs : List ℕ) → AreMet marks (theatre_at l.theatres.items) xs → AreBelow (theatre_count I) marks
  marks-below marks xs met i past = met i ∙ nowhere_in xs
    where
      by_case : (x : ℕ) (o : Option Placement) → stay_of P x ≡ o → is_number (option_map (λ (at : Placement). at.theatre.0) o) i ≡ false
      by_case x None e = refl
      by_case x (Some at) e = let below = (stands.plan.placed x at e).theatre in ne_eqb at.theatre.0 i (λ same. omega arith)

      here : (x : ℕ) → is_number (theatre_at l.theatres.items x) i ≡ false
      here x = ap (λ o. is_number o i) (ap (λ ts. theatre_at ts x) stands.theatres ∙ theatre-known P x) ∙ by_case x (stay_of P x) refl

      nowhere_in : (ys : List ℕ) → list_any (λ o. is_number o i) (map (theatre_at l.theatres.items) ys) ≡ false
      nowhere_in [] = refl
      nowhere_in (y ∷ ys) = let first = here y in let rest = nowhere_in ys in rw (first, rest) refl

-- ---- what is kept for a day

module _ {I : Draft} {P : Timetable} {l : Theatres} (stands : IsLedgerOf I P l) (d h : ℕ) (day : d < I.days) where
  here : (rows row : ℕ) → row < rows → h ≡ day_number I row d → h < rows * I.days
  here rows row inside today = rw today (day-below I rows row d inside day)

  -- of theatre t
  module _ (t : ℕ) (inside : t < theatre_count I) (today : h ≡ day_number I t d) (x : ℕ) (read : x ≡ slice_index_or l.theatre_minutes.items h x) where
    pub theatre-is : x ≡ minutes I (list_of l.theatre_days h)
    theatre-is = kept-is stands.theatre_days stands.theatre_minutes h (here (theatre_count I) t inside today) x read

    pub theatre-most : IsValid I → x ≤ 204800000
    theatre-most = kept-most stands.theatre_days stands.theatre_minutes h (here (theatre_count I) t inside today) x read

  -- of surgeon s
  module _ (s : ℕ) (inside : s < surgeon_count I) (today : h ≡ day_number I s d) (x : ℕ) (read : x ≡ slice_index_or l.surgeon_minutes.items h x) where
    pub surgeon-is : x ≡ minutes I (list_of l.surgeon_days h)
    surgeon-is = kept-is stands.surgeon_days stands.surgeon_minutes h (here (surgeon_count I) s inside today) x read

    pub surgeon-most : IsValid I → x ≤ 204800000
    surgeon-most = kept-most stands.surgeon_days stands.surgeon_minutes h (here (surgeon_count I) s inside today) x read

-- ---- a patient comes or goes

module _ {I : Draft} {P : Timetable} {l : Theatres} (valid : IsValid I) (stands : IsLedgerOf I P l) (p : PatientNo) (known : p.0 < patient_count I) where
  inside : p.0 < length P.stays
  inside = let sizes = stands.plan.stays in omega arith

  module _ (stay : Option Placement) where
    abbrev later : Timetable
    later = put (SetStay p stay) P

    t_others : (x : ℕ) → (x ≡ p.0 → ⊥) → theatre_day I (stay_of later x) ≡ theatre_day I (stay_of P x)
    t_others x ne = ap (theatre_day I) (stay_of-other P p stay x ne)

    s_others : (x : ℕ) → (x ≡ p.0 → ⊥) → surgeon_day I (surgeon_of I x) (stay_of later x) ≡ surgeon_day I (surgeon_of I x) (stay_of P x)
    s_others x ne = ap (surgeon_day I (surgeon_of I x)) (stay_of-other P p stay x ne)

    t_own : theatre_day I (stay_of later p.0) ≡ theatre_day I stay
    t_own = ap (theatre_day I) (stay_of-same P p stay inside)

    s_own : surgeon_day I (surgeon_of I p.0) (stay_of later p.0) ≡ surgeon_day I (surgeon_of I p.0) stay
    s_own = ap (surgeon_day I (surgeon_of I p.0)) (stay_of-same P p stay inside)

    theatres-later : slice_set l.theatres.items p.0 (theatre_in stay) ≡ map theatre_in later.stays
    theatres-later = ap (λ ts. slice_set ts p.0 (theatre_in stay)) stands.theatres ∙ sym (map-set theatre_in P.stays p.0 stay)

  -- who isn't admitted has no day
  no-theatre : stay_of P p.0 ≡ None → theatre_day I (stay_of P p.0) ≡ None
  no-theatre out = ap (theatre_day I) out

  no-surgeon : stay_of P p.0 ≡ None → surgeon_day I (surgeon_of I p.0) (stay_of P p.0) ≡ None
  no-surgeon out = ap (surgeon_day I (surgeon_of I p.0)) out ∙ no-surgeon_day I (surgeon_of I p.0)

  -- who is admitted has a day of each kind, so is in a list of each kind
  in-theatre : (at : Placement) → stay_of P p.0 ≡ Some at → theatre_day I (stay_of P p.0) ≡ Some (day_number I at.theatre.0 at.day.0)
  in-theatre at there = ap (theatre_day I) there

  with-surgeon : (at : Placement) (a : Patient) → slice_get I.patients p.0 ≡ Some a → stay_of P p.0 ≡ Some at
      → surgeon_day I (surgeon_of I p.0) (stay_of P p.0) ≡ Some (day_number I a.surgeon_id.0 at.day.0)
  with-surgeon at a is there = ap (surgeon_day I (surgeon_of I p.0)) there ∙ ap (λ s. surgeon_day I s (Some at)) (surgeon-known I p.0 a is)

  pub in-theatres : (at : Placement) → stay_of P p.0 ≡ Some at → (h : ℕ) × (has p.0 (list_of l.theatre_days h) ≡ true)
  in-theatres at there = days-linked stands.theatre_days p.0 (day_number I at.theatre.0 at.day.0) (in-theatre at there)

  pub in-surgeons : (at : Placement) (a : Patient) → slice_get I.patients p.0 ≡ Some a → stay_of P p.0 ≡ Some at → (h : ℕ) × (has p.0 (list_of l.surgeon_days h) ≡ true)
  in-surgeons at a is there = days-linked stands.surgeon_days p.0 (day_number I a.surgeon_id.0 at.day.0) (with-surgeon at a is there)

  module _ (at : Placement) (a : Patient) (is : slice_get I.patients p.0 ≡ Some a) (fits : IsPlacement I at) where
    abbrev at_theatre : ℕ
    at_theatre = day_number I at.theatre.0 at.day.0

    abbrev at_surgeon : ℕ
    at_surgeon = day_number I a.surgeon_id.0 at.day.0

    mine : a.surgery_duration ≡ duration_of I p.0
    mine = sym (duration-is I p.0 a is)

    t_below : at_theatre < theatre_count I * I.days
    t_below = day-below I (theatre_count I) at.theatre.0 at.day.0 fits.theatre fits.day

    s_below : at_surgeon < surgeon_count I * I.days
    s_below = day-below I (surgeon_count I) a.surgeon_id.0 at.day.0 (from-all (IsPatient I) I.patients p.0 a valid.each_patient is).surgeon fits.day

    -- the days have minutes
    pub theatre-below : at_theatre < length l.theatre_minutes.items
    theatre-below = kept-below stands.theatre_days stands.theatre_minutes at_theatre t_below

    pub surgeon-below : at_surgeon < length l.surgeon_minutes.items
    surgeon-below = kept-below stands.surgeon_days stands.surgeon_minutes at_surgeon s_below

    -- x is what is kept for the day of the theatre, or of the surgeon
    module _ (x : ℕ) (t_read : x ≡ slice_index_or l.theatre_minutes.items at_theatre x) where
      pub theatre-room : stay_of P p.0 ≡ None → x + a.surgery_duration ≤ 204800000
      theatre-room out = kept-room stands.theatre_days stands.theatre_minutes at_theatre t_below x t_read p.0 a.surgery_duration mine valid known (no-theatre out)

      pub theatre-enough : stay_of P p.0 ≡ Some at → a.surgery_duration ≤ x
      theatre-enough there = kept-enough stands.theatre_days stands.theatre_minutes at_theatre t_below x t_read p.0 a.surgery_duration mine (in-theatre at there)

    module _ (x : ℕ) (s_read : x ≡ slice_index_or l.surgeon_minutes.items at_surgeon x) where
      pub surgeon-room : stay_of P p.0 ≡ None → x + a.surgery_duration ≤ 204800000
      surgeon-room out = kept-room stands.surgeon_days stands.surgeon_minutes at_surgeon s_below x s_read p.0 a.surgery_duration mine valid known (no-surgeon out)

      pub surgeon-enough : stay_of P p.0 ≡ Some at → a.surgery_duration ≤ x
      surgeon-enough there = kept-enough stands.surgeon_days stands.surgeon_minutes at_surgeon s_below x s_read p.0 a.surgery_duration mine (with-surgeon at a is there)

    module _ (m : Theatres) (x y : ℕ) (t_read : x ≡ slice_index_or l.theatre_minutes.items at_theatre x) (s_read : y ≡ slice_index_or l.surgeon_minutes.items at_surgeon y) where
      -- a patient comes
      pub ledger-entered : stay_of P p.0 ≡ None → m.theatres.items ≡ slice_set l.theatres.items p.0 (Some at.theatre)
          → m.theatre_days.lists ≡ slice_set l.theatre_days.lists at_theatre (list_of l.theatre_days at_theatre ++ p.0 ∷ []) → m.theatre_days.nodes ≡ l.theatre_days.nodes
          → m.surgeon_days.lists ≡ slice_set l.surgeon_days.lists at_surgeon (list_of l.surgeon_days at_surgeon ++ p.0 ∷ []) → m.surgeon_days.nodes ≡ l.surgeon_days.nodes
          → m.theatre_minutes.items ≡ slice_set l.theatre_minutes.items at_theatre (x + a.surgery_duration)
          → m.surgeon_minutes.items ≡ slice_set l.surgeon_minutes.items at_surgeon (y + a.surgery_duration)
          → IsLedgerOf I (put (SetStay p (Some at)) P) m
      ledger-entered out theatres t_lists t_nodes s_lists s_nodes t_minutes s_minutes = record {
        plan = stay-plan I P p at stands.plan known fits;
        theatres = theatres ∙ theatres-later (Some at);
        theatre_days = days-entered stands.theatre_days p.0 (t_others (Some at)) t_nodes at_theatre known t_below (no-theatre out) (t_own (Some at)) t_lists;
        surgeon_days = days-entered stands.surgeon_days p.0 (s_others (Some at)) s_nodes at_surgeon known s_below (no-surgeon out)
            (s_own (Some at) ∙ ap (λ s. surgeon_day I s (Some at)) (surgeon-known I p.0 a is)) s_lists;
        theatre_minutes = minutes-entered stands.theatre_days stands.theatre_minutes at_theatre t_below x t_read p.0 a.surgery_duration mine t_lists t_minutes;
        surgeon_minutes = minutes-entered stands.surgeon_days stands.surgeon_minutes at_surgeon s_below y s_read p.0 a.surgery_duration mine s_lists s_minutes;
      }

      -- a patient goes
      pub ledger-left : stay_of P p.0 ≡ Some at → m.theatres.items ≡ slice_set l.theatres.items p.0 None
          → m.theatre_days.lists ≡ map (without p.0) l.theatre_days.lists → m.theatre_days.nodes ≡ l.theatre_days.nodes
          → m.surgeon_days.lists ≡ map (without p.0) l.surgeon_days.lists → m.surgeon_days.nodes ≡ l.surgeon_days.nodes
          → m.theatre_minutes.items ≡ slice_set l.theatre_minutes.items at_theatre (x - a.surgery_duration)
          → m.surgeon_minutes.items ≡ slice_set l.surgeon_minutes.items at_surgeon (y - a.surgery_duration)
          → IsLedgerOf I (put (SetStay p None) P) m
      ledger-left there theatres t_lists t_nodes s_lists s_nodes t_minutes s_minutes = record {
        plan = put-plan I P (SetStay p None) stands.plan (known, λ at e. absurd (let no : None ≡ Some at = e in cc));
        theatres = theatres ∙ theatres-later None;
        theatre_days = days-left stands.theatre_days p.0 (t_others None) t_nodes (t_own None) t_lists;
        surgeon_days = days-left stands.surgeon_days p.0 (s_others None) s_nodes (s_own None ∙ no-surgeon_day I (surgeon_of I p.0)) s_lists;
        theatre_minutes = minutes-left stands.theatre_days stands.theatre_minutes at_theatre t_below x t_read p.0 a.surgery_duration mine (in-theatre at there) t_lists t_minutes;
        surgeon_minutes = minutes-left stands.surgeon_days stands.surgeon_minutes at_surgeon s_below y s_read p.0 a.surgery_duration mine (with-surgeon at a is there) s_lists s_minutes;
      }
