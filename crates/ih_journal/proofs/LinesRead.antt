-- Lines of the smallest whole run, as they are read: the first entry's, and the same damaged.
use Rattle.std.proofs.Common.{◌≡◌, ℕ, zero, suc, ◌<◌, ◌∙◌, refl, sym, ap, subst, arith, rules, inl, inr, Some, None, List, [], length, lit<, lit≤}
use Rattle.std.specs.Prelude.{codes}
use Rattle.std.proofs.lemmas.Fmt.{decimal_nonempty}
use Rattle.ih_plan.specs.declared.moves.Move.{Move}
use Rattle.ih_plan.specs.Expand.{IsMoveOf}
use Rattle.ih_plan.proofs.ExampleWards.{one_room}
use Rattle.ih_plan.proofs.MoveExamples.{nurse}
use Rattle.ih_journal.specs.Texts.{move_text}
use Rattle.ih_journal.specs.Grammar.{IsPrice, IsEntryOf, IsLineOf, IsField, IsRight, IsFirstWrong, FieldKind, count_kind, move_kind, price_kind, verdict_kind}
use Rattle.ih_journal.proofs.InRange.{IsLimited, move_short}
use Rattle.ih_journal.proofs.MoveTexts.{moves_differ}
use Rattle.ih_journal.proofs.Literals.{history_on_literals}
use Rattle.ih_journal.proofs.SmallestRun.{small_options, first_entry, first_price}

first_is_price : IsPrice first_price
first_is_price = record { counts = refl; costs = refl; small = search rules }

first_is_entry : IsEntryOf one_room small_options first_entry
first_is_entry = record {
  worker = lit< tt;
  number = lit< tt;
  again = lit< tt;
  once = λ h. refl;
  seen = lit< tt;
  move = (lit< tt, lit< tt, lit< tt, lit≤ tt, lit≤ tt);
  price = first_is_price;
  verdict = tt;
}

-- the line is that of the first entry at place 0
pub first_line : IsLineOf one_room small_options 0 first_entry (codes "0 0 0 0 nurserun:0,0,0,5 0,0,0,0,0,0,0,0,-3,0,1,1,0,0,0,0,0 accepted")
unfolding history_on_literals
first_line = record { place = lit< tt; entry = first_is_entry; text = refl }

no_number : (k : FieldKind) (x : List ℕ) → Some count_kind ≡ Some k → Some [] ≡ Some x → IsField one_room k x → ⊥
no_number k x kinds fields fits =
    let kind : count_kind ≡ k = cc in
    let field : [] ≡ x = cc in
    let P : FieldKind → Type 0 = λ q. IsField one_room q x in
    let number = subst P (sym kind) fits in
    let some = decimal_nonempty number.0 (let small = number.1 in omega arith) in
    let none = ap length (field ∙ number.2) in
    omega (arith, some, none)

-- with two spaces behind the first field, the second is wrong
pub two_spaces : IsFirstWrong one_room small_options (codes "0  0 0 0 nurserun:0,0,0,5 0,0,0,0,0,0,0,0,-3,0,1,1,0,0,0,0,0 accepted") 2
unfolding history_on_literals
two_spaces = record {
  index = 1;
  number = refl;
  before = before;
  wrong = λ r. no_number r.kind r.field r.wanted r.there r.fits;
  field = inl (lit< tt);
}
  where
    before : (i : ℕ) → i < 1 → IsRight one_room small_options (codes "0  0 0 0 nurserun:0,0,0,5 0,0,0,0,0,0,0,0,-3,0,1,1,0,0,0,0,0 accepted") i
    before zero h = record { kind = count_kind; field = codes "0"; wanted = refl; there = refl; fits = (0, lit< tt, refl) }
    before (suc i) h = absurd (omega arith)

-- with a further field, that one is wrong
eighth_before : (i : ℕ) → i < 7 → IsRight one_room small_options (codes "0 0 0 0 nurserun:0,0,0,5 0,0,0,0,0,0,0,0,-3,0,1,1,0,0,0,0,0 accepted x") i
unfolding history_on_literals
eighth_before zero h = record { kind = count_kind; field = codes "0"; wanted = refl; there = refl; fits = (0, lit< tt, refl) }
eighth_before (suc zero) h = record { kind = count_kind; field = codes "0"; wanted = refl; there = refl; fits = (0, lit< tt, refl) }
eighth_before (suc (suc zero)) h = record { kind = count_kind; field = codes "0"; wanted = refl; there = refl; fits = (0, lit< tt, refl) }
eighth_before (suc (suc (suc zero))) h = record { kind = count_kind; field = codes "0"; wanted = refl; there = refl; fits = (0, lit< tt, refl) }
eighth_before (suc (suc (suc (suc zero)))) h =
    record { kind = move_kind; field = codes "nurserun:0,0,0,5"; wanted = refl; there = refl; fits = (first_entry.mv, first_is_entry.move, refl) }
eighth_before (suc (suc (suc (suc (suc zero))))) h =
    record { kind = price_kind; field = codes "0,0,0,0,0,0,0,0,-3,0,1,1,0,0,0,0,0"; wanted = refl; there = refl; fits = (first_price, first_is_price, refl) }
eighth_before (suc (suc (suc (suc (suc (suc zero)))))) h =
    record { kind = verdict_kind; field = codes "accepted"; wanted = refl; there = refl; fits = (first_entry.verdict, tt, refl) }
eighth_before (suc (suc (suc (suc (suc (suc (suc i))))))) h = absurd (omega arith)

pub eighth_field : IsFirstWrong one_room small_options (codes "0 0 0 0 nurserun:0,0,0,5 0,0,0,0,0,0,0,0,-3,0,1,1,0,0,0,0,0 accepted x") 8
eighth_field = record {
  index = 7;
  number = refl;
  before = eighth_before;
  wrong = λ r. let no : None ≡ Some r.kind = r.wanted in cc;
  field = inr (lit< tt);
}

small_limits : IsLimited one_room
small_limits = record { days = lit≤ tt; patients = lit≤ tt; occupants = lit≤ tt; rooms = lit≤ tt; theatres = lit≤ tt; surgeons = lit≤ tt; nurses = lit≤ tt }

-- shift 3 is past the last of the only day
pub shift_past_the_last : (m : Move) → IsMoveOf one_room m → codes "nurse:0,3,0" ≡ move_text m → ⊥
unfolding history_on_literals
shift_past_the_last m inside is =
    let same = moves_differ m (nurse 0 3 0) (move_short one_room m small_limits inside) (search rules) (sym is) in
    let Inside : Move → Type 0 = λ x. IsMoveOf one_room x in
    let shift = (subst Inside same inside).1 in
    omega (arith, shift)
