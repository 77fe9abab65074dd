-- What a look-up by id finds.
use Rattle.std.proofs.Common.{◌≡◌, ℕ, ◌<◌, List, length, map, refl, sym, ap, arith, Option, Some, None}
use Rattle.std.specs.Prelude.{IfSome, option_map}
use Rattle.std.proofs.lemmas.List.{length-map}
use Rattle.ih_tables.specs.declared.drafts.Draft.{Draft}
use Rattle.ih_tables.specs.declared.ids.NurseNo.{NurseNo}
use Rattle.ih_tables.specs.declared.ids.PatientNo.{PatientNo}
use Rattle.ih_tables.specs.declared.ids.RoomNo.{RoomNo}
use Rattle.ih_tables.specs.declared.ids.TheatreNo.{TheatreNo}
use Rattle.ih_tables.specs.Lookups.{number_in}
use Rattle.ih_tables.proofs.IndexLemmas.{number_in-below}
use Rattle.ih_plan.specs.declared.moves.Placement.{Placement}
use Rattle.ih_plan.specs.Timetable.{IsPlacement, IsPlanOf, Timetable, stay_of}
use Rattle.ih_carry.specs.Ids.{nurse_no, patient_no, room_no, theatre_no}

-- ---- what is found by its number

pub patient-found : (o : Option PatientNo) (n : Option ℕ) → option_map (λ (p : PatientNo). p.0) o ≡ n → o ≡ option_map patient_no n
patient-found None n e = ap (option_map patient_no) e
patient-found (Some p) n e = ap (option_map patient_no) e

pub room-found : (o : Option RoomNo) (n : Option ℕ) → option_map (λ (r : RoomNo). r.0) o ≡ n → o ≡ option_map room_no n
room-found None n e = ap (option_map room_no) e
room-found (Some r) n e = ap (option_map room_no) e

pub theatre-found : (o : Option TheatreNo) (n : Option ℕ) → option_map (λ (t : TheatreNo). t.0) o ≡ n → o ≡ option_map theatre_no n
theatre-found None n e = ap (option_map theatre_no) e
theatre-found (Some t) n e = ap (option_map theatre_no) e

pub nurse-found : (o : Option NurseNo) (n : Option ℕ) → option_map (λ (m : NurseNo). m.0) o ≡ n → o ≡ option_map nurse_no n
nurse-found None n e = ap (option_map nurse_no) e
nurse-found (Some m) n e = ap (option_map nurse_no) e

-- ---- what is found is there

pub found-inside : {A X : Type 0} (f : A → ℕ) (name : X → List ℕ) (xs : List X) (s : List ℕ) (o : Option A)
    → option_map f o ≡ number_in (map name xs) s → IfSome o (λ x. f x < length xs)
found-inside f name xs s None e = tt
found-inside f name xs s (Some x) e =
    let below = number_in-below (map name xs) s (f x) (sym e) in
    omega (arith, below, length-map xs name)

-- who is admitted has a placement in range
pub stay-inside : (I : Draft) (P : Timetable) (p : ℕ) → IsPlanOf I P → IfSome (stay_of P p) (IsPlacement I)
stay-inside I P p plan = by_case (stay_of P p) refl
  where
    by_case : (o : Option Placement) → stay_of P p ≡ o → IfSome o (IsPlacement I)
    by_case None e = tt
    by_case (Some at) e = plan.placed p at e

pub ruleset stay_steps = stay-inside

pub ruleset known_steps = (patient-found, room-found, theatre-found, nurse-found)
