-- The least of a list of candidates, and one more.
use Rattle.std.proofs.Common.{◌≡◌, ◌<◌, refl, sym, ◌∙◌, ap, subst, Bool, true, false, List, [], ◌∷◌, ◌++◌}
use Rattle.ih_tables.specs.declared.drafts.Draft.{Draft}
use Rattle.ih_tables.specs.declared.ids.PatientNo.{PatientNo}
use Rattle.ih_tables.specs.declared.ids.RoomNo.{RoomNo}
use Rattle.ih_tables.specs.declared.ids.Shift.{Shift}
use Rattle.ih_tables.specs.declared.ids.NurseNo.{NurseNo}
use Rattle.ih_tables.specs.Sizes.{patient_count, room_count, shift_count, nurse_count}
use Rattle.ih_plan.specs.declared.moves.Placement.{Placement}
use Rattle.ih_plan.specs.declared.moves.Write.TheVariants.{SetStay, SetCare}
use Rattle.ih_plan.specs.Timetable.{IsPlacement}
use Rattle.ih_plan.specs.Writes.{IsWriteOf}
use Rattle.std.specs.Prelude.{ℤ, int_lt, if◌then◌else◌, Option, Some, None}
use Rattle.ih_plan.specs.declared.moves.Write.{Write}
use Rattle.ih_fill.specs.declared.candidates.Candidate.{Candidate}
use Rattle.ih_fill.specs.Candidates.{cheapest, valued, least_of}

-- the cheaper of two candidates, the first on a tie
abbrev pub cheaper : Candidate → Candidate → Candidate
cheaper first second = if int_lt second.value first.value then second else first

pub cheapest-append : (v : Write → ℤ) (w : Write) (xs ys : List Write) → cheapest v w (xs ++ ys) ≡ cheapest v (cheapest v w xs) ys
cheapest-append v w [] ys = refl
cheapest-append v w (x ∷ xs) ys = by_case (int_lt (v x) (v w)) (cheapest-append v x xs ys) (cheapest-append v w xs ys)
  where
    by_case : (b : Bool) → cheapest v x (xs ++ ys) ≡ cheapest v (cheapest v x xs) ys → cheapest v w (xs ++ ys) ≡ cheapest v (cheapest v w xs) ys
        → (if b then cheapest v x (xs ++ ys) else cheapest v w (xs ++ ys)) ≡ cheapest v (if b then cheapest v x xs else cheapest v w xs) ys
    by_case true e f = e
    by_case false e f = f

valued-if : (v : Write → ℤ) (w x : Write) (b : Bool) → (if b then valued v x else valued v w) ≡ valued v (if b then x else w)
valued-if v w x true = refl
valued-if v w x false = refl

-- A candidate that is cheaper than the least so far is the least.
pub cheaper-more : (v : Write → ℤ) (w x : Write) (xs : List Write) → cheaper (valued v (cheapest v w xs)) (valued v x) ≡ valued v (cheapest v w (xs ++ x ∷ []))
cheaper-more v w x xs = valued-if v (cheapest v w xs) x (int_lt (v x) (v (cheapest v w xs))) ∙ ap (valued v) (sym (cheapest-append v w xs (x ∷ [])))

-- of no candidate yet, the next one is the least
abbrev pub least_with : Option Candidate → Candidate → Candidate
least_with None x = x
least_with (Some c) x = cheaper c x

pub least-more : (v : Write → ℤ) (x : Write) (xs : List Write) → Some (least_with (least_of v xs) (valued v x)) ≡ least_of v (xs ++ x ∷ [])
least-more v x [] = refl
least-more v x (w ∷ xs) = ap Some (cheaper-more v w x xs)

pub next-of : (v : Write → ℤ) (xs : List Write) (x : Write) (best : Option Candidate) (candidate : Candidate)
    → best ≡ least_of v xs → candidate ≡ valued v x → Some (least_with best candidate) ≡ least_of v (xs ++ x ∷ [])
next-of v xs x best candidate e f = ap (λ o. Some (least_with o candidate)) e ∙ (ap (λ c. Some (least_with (least_of v xs) c)) f ∙ least-more v x xs)

-- Whatever holds of both holds of the cheaper.
pub cheaper-either : (Q : Write → Type 0) (a b : Candidate) → Q a.write → Q b.write → Q (cheaper a b).write
cheaper-either Q a b p q = by_case (int_lt b.value a.value)
  where
    by_case : (t : Bool) → Q (if t then b else a).write
    by_case true = q
    by_case false = p

-- the least of a list after that of the list before it
pub then-least : (v : Write → ℤ) (w : Write) (xs ys : List Write) (first result : Candidate)
    → first ≡ valued v (cheapest v w xs) → result ≡ valued v (cheapest v first.write ys) → result ≡ valued v (cheapest v w (xs ++ ys))
then-least v w xs ys first result a e =
    e ∙ ap (valued v) (ap (λ (c : Candidate). cheapest v c.write ys) a ∙ sym (cheapest-append v w xs ys))

pub stay-fits : (I : Draft) (p : PatientNo) (at : Placement) → p.0 < patient_count I → IsPlacement I at → IsWriteOf I (SetStay p (Some at))
stay-fits I p at inside fits = (inside, λ other e. let same : at ≡ other = cc in subst (IsPlacement I) same fits)

pub out-fits : (I : Draft) (p : PatientNo) → p.0 < patient_count I → IsWriteOf I (SetStay p None)
out-fits I p inside = (inside, λ other e. absurd (let no : None ≡ Some other = e in cc))

pub no-nurse-fits : (I : Draft) (r : RoomNo) (k : Shift) → r.0 < room_count I → k.0 < shift_count I → IsWriteOf I (SetCare r k None)
no-nurse-fits I r k room shift = (room, shift, λ other e. absurd (let no : None ≡ Some other = e in cc))

pub care-fits : (I : Draft) (r : RoomNo) (k : Shift) (n : NurseNo) → r.0 < room_count I → k.0 < shift_count I → n.0 < nurse_count I → IsWriteOf I (SetCare r k (Some n))
care-fits I r k n room shift nurse = (room, shift, λ other e. let same : n ≡ other = cc in subst (λ (m : NurseNo). m.0 < nurse_count I) same nurse)
