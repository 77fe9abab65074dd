-- Whether somebody is in a room on a day, by a list of those who are there.
use Rattle.std.proofs.Common.{◌≡◌, ℕ, ◌<◌, arith, refl, sym, ◌∙◌, true, false, List, [], ◌∷◌, length, not}
use Rattle.std.specs.Prelude.{nat_lt}
use Rattle.std.proofs.lemmas.Bool.{eq-eqb, lt-ltb}
use Rattle.ih_tables.specs.declared.drafts.Draft.{Draft}
use Rattle.ih_tables.specs.Sizes.{room_count}
use Rattle.ih_plan.specs.Costs.{is_empty}
use Rattle.ih_plan.specs.Presence.{present}
use Rattle.ih_plan.specs.Sums.{is_listed}
use Rattle.ih_plan.specs.Timetable.{Timetable}
use Rattle.ih_roomdays.specs.declared.room_lists.RoomLists.{RoomLists}
use Rattle.ih_roomdays.specs.Ledger.{IsLedgerOf}
use Rattle.ih_roomdays.specs.RoomLists.{persons_at}
use Rattle.ih_roomdays.proofs.People.{has-is_listed}
use Rattle.ih_roomdays.proofs.Standing.{has-present, tells}

first-listed : (x : ℕ) (xs : List ℕ) → is_listed x (x ∷ xs) ≡ true
first-listed x xs = rw (eq-eqb x x refl) refl

some-alike : (xs ys : List ℕ) → ((x : ℕ) → is_listed x xs ≡ is_listed x ys) → nat_lt 0 (length xs) ≡ not (is_empty ys)
some-alike [] [] same = refl
some-alike [] (y ∷ ys) same = absurd (let no : false ≡ true = same y ∙ first-listed y ys in cc)
some-alike (x ∷ xs) [] same = absurd (let no : false ≡ true = sym (same x) ∙ first-listed x xs in cc)
some-alike (x ∷ xs) (y ∷ ys) same = lt-ltb 0 (length (x ∷ xs)) (omega arith)

pub occupied : (I : Draft) (P : Timetable) (v : RoomLists) (r d : ℕ) → IsLedgerOf I P v → r < room_count I → d < I.days
    → nat_lt 0 (length (persons_at v r d)) ≡ not (is_empty (present I P r d))
occupied I P v r d stands room day =
    let told = tells I P v stands in
    some-alike (persons_at v r d) (present I P r d)
    (λ x. told.each r d x (rw stands.rooms room) (rw stands.days day) ∙ (sym (has-present I P r d x) ∙ has-is_listed x (present I P r d)))
