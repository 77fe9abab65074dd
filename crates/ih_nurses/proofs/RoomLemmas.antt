-- What a room's nurse and the persons in its list give is the part of its shift.
use Rattle.std.proofs.Common.{◌≡◌, ℕ, ◌+◌, ◌-◌, ◌<◌, refl, arith, sym, ap, subst, ◌∙◌, List, [], ◌∷◌, length, map, Option, Some, None}
use Rattle.std.specs.Prelude.{◌&&◌, not, is_none, sum_by, slice_index, slice_index_or}
use Rattle.std.proofs.lemmas.List.Sums.{sum_by-cons}
use Rattle.ih_tables.specs.declared.drafts.Draft.{Draft}
use Rattle.ih_tables.specs.declared.ids.RoomNo.{RoomNo}
use Rattle.ih_tables.specs.declared.ids.Shift.{Shift}
use Rattle.ih_tables.specs.declared.cells.Cell.TheVariants.{RoomShift}
use Rattle.ih_tables.specs.Sizes.{person_count, room_count, shift_count}
use Rattle.ih_links.specs.Lists.{LinksState, list_of, AreNodes}
use Rattle.ih_plan.specs.Timetable.{Timetable, care_of}
use Rattle.ih_plan.specs.Persons.{person_of}
use Rattle.ih_plan.specs.Presence.{present, day_of, skill_of, entry_of}
use Rattle.ih_plan.specs.Costs.{not_working, is_empty, skill_missing, skill_level}
use Rattle.ih_plan.specs.BillOf.{as_bill}
use Rattle.ih_plan.specs.Cells.{part_at, part_of, content_of}
use Rattle.ih_plan.specs.Sums.{bit}
use Rattle.ih_plan.proofs.ListedBelow.{tagged-both}
use Rattle.ih_plan.proofs.Parts.{is_empty-tagged}
use Rattle.ih_nurses.specs.Here.{AreHere}
use Rattle.ih_nurses.proofs.BillLemmas.{nursing}
use Rattle.ih_nurses.proofs.HereLemmas.{read-here}
use Rattle.ih_nurses.proofs.ShiftLemmas.{sum-in_list}
use Rattle.ih_nurses.proofs.WalkLemmas.{sum-even}

-- a sum over the values of a list
pub sum-values : {X : Type 0} (f : ℕ → ℕ) (g : X → ℕ) (xs : List X) → sum_by f (map g xs) ≡ sum_by (λ x. f (g x)) xs
sum-values f g [] = refl
sum-values f g (x ∷ xs) = sum_by-cons f (g x) (map g xs) ∙ (ap (λ n. f (g x) + n) (sum-values f g xs) ∙ sym (sum_by-cons (λ y. f (g y)) x xs))

-- lists of the same length are both empty, or neither is
empty-same : (xs ys : List ℕ) → length xs ≡ length ys → is_empty xs ≡ is_empty ys
empty-same [] [] e = refl
empty-same [] (y ∷ ys) e = absurd (omega (arith, e))
empty-same (x ∷ xs) [] e = absurd (omega (arith, e))
empty-same (x ∷ xs) (y ∷ ys) e = refl

-- the lists give the same sums
abbrev pub AreAlike : List ℕ → List ℕ → Type 0
AreAlike xs ys = (f : ℕ → ℕ) → sum_by f xs ≡ sum_by f ys

pub alike-empty : (xs ys : List ℕ) → AreAlike xs ys → is_empty xs ≡ is_empty ys
alike-empty xs ys alike = empty-same xs ys (omega (arith, alike (λ x. 1), sum-even 1 xs, sum-even 1 ys))

pub alike-missing : (I : Draft) (n : Option ℕ) (skill : ℕ → ℕ) (xs ys : List ℕ) → AreAlike xs ys → skill_missing I n (map skill xs) ≡ skill_missing I n (map skill ys)
alike-missing I None skill xs ys alike = refl
alike-missing I (Some n) skill xs ys alike =
    sum-values (λ s. s - skill_level I n) skill xs ∙ (alike (λ x. skill x - skill_level I n) ∙ sym (sum-values (λ s. s - skill_level I n) skill ys))

pub room-part : (I : Draft) (P : Timetable) (r : RoomNo) (k : Shift) (off uncovered missing : ℕ) → off ≡ bit (not_working I k.0 (care_of P r.0 k.0))
    → uncovered ≡ bit (is_none (care_of P r.0 k.0) && not (is_empty (present I P r.0 (day_of k.0))))
    → missing ≡ skill_missing I (care_of P r.0 k.0) (map (skill_of I P k.0) (present I P r.0 (day_of k.0)))
    → nursing off uncovered missing 0 0 ≡ as_bill (part_at I P (RoomShift r k))
unfolding part_of content_of
room-part I P r k off uncovered missing o u m =
    let skills = tagged-both (λ x at. slice_index (person_of I x).skill at) (λ x. entry_of I P x k.0) (present I P r.0 (day_of k.0)) in
    let empties = is_empty-tagged (λ x. entry_of I P x k.0) (present I P r.0 (day_of k.0)) in
    rw (o, u, m, skills, empties) refl

-- the same where the persons are those of the room's list
pub room_list-part : (I : Draft) (P : Timetable) (here : List LinksState) (day : LinksState) (r : RoomNo) (k : Shift) (n : Option ℕ) (off uncovered missing : ℕ) → AreHere I P here → r.0 < room_count I
    → k.0 < shift_count I → day ≡ slice_index_or here (day_of k.0) day → AreNodes day.nodes (list_of day r.0) → n ≡ care_of P r.0 k.0 → off ≡ bit (not_working I k.0 n)
    → uncovered ≡ bit (is_none n && not (is_empty (list_of day r.0))) → missing ≡ skill_missing I n (map (skill_of I P k.0) (list_of day r.0))
    → nursing off uncovered missing 0 0 ≡ as_bill (part_at I P (RoomShift r k))
room_list-part I P here day r k n off uncovered missing known rh kh day_is nodes nurse o u m =
    let days = known.sized.days in
    let read = read-here here (day_of k.0) day day day (omega (arith, days, kh)) day_is in
    let persons : day.nodes ≡ person_count I = ap (λ (l : LinksState). l.nodes) (sym read) ∙ known.sized.persons (day_of k.0) (omega (arith, kh)) in
    let alike : AreAlike (list_of day r.0) (present I P r.0 (day_of k.0)) = λ f. sum-in_list I P here day r.0 k.0 f known rh kh day_is (subst (λ m. AreNodes m (list_of day r.0)) persons nodes) in
    let empties = alike-empty (list_of day r.0) (present I P r.0 (day_of k.0)) alike in
    let skills = alike-missing I n (skill_of I P k.0) (list_of day r.0) (present I P r.0 (day_of k.0)) alike in
    room-part I P r k off uncovered missing (rw (← nurse) o) (u ∙ rw (empties, nurse) refl) (m ∙ (skills ∙ rw nurse refl))
