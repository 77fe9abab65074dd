-- The differences of two bills of nursing.
use Rattle.std.proofs.Common.{◌≡◌, ℕ, ◌+◌, refl, arith, ap, ◌∙◌, pos}
use Rattle.std.specs.Prelude.{◌-ℤ◌}
use Rattle.std.proofs.lemmas.Int.{ints}
use Rattle.ih_tables.specs.declared.drafts.Draft.{Draft}
use Rattle.ih_tables.specs.declared.ids.PersonNo.{PersonNo}
use Rattle.ih_tables.specs.declared.bills.Bill.{Bill}
use Rattle.ih_tables.specs.declared.cells.Cell.TheVariants.{Care}
use Rattle.ih_tables.specs.Bills.{sub_bills}
use Rattle.ih_plan.specs.Timetable.{Timetable}
use Rattle.ih_plan.specs.Presence.{admission_of}
use Rattle.ih_plan.specs.Persons.{person_of}
use Rattle.ih_plan.specs.Costs.{distinct_nurses}
use Rattle.ih_plan.specs.BillOf.{as_bill}
use Rattle.ih_plan.specs.Cells.{part_at}
use Rattle.ih_nurses.specs.declared.bills.NursingCosts.{NursingCosts}
use Rattle.ih_nurses.specs.Bills.{nursing_bill}
use Rattle.ih_nurses.specs.ShiftSpans.{shift_span_in, nurses_over}
use Rattle.ih_nurses.proofs.BillLemmas.{nursing}
use Rattle.ih_nurses.proofs.ShiftSpanLemmas.{shift_span-part}

-- the bill of these costs
abbrev pub bill_in : NursingCosts → Bill
bill_in a = nursing a.off a.uncovered a.missing_skill a.nurses_seen a.overload

-- their difference, number by number
abbrev pub less : NursingCosts → NursingCosts → Bill
less a b =
    nursing_bill (pos a.off -ℤ pos b.off) (pos a.uncovered -ℤ pos b.uncovered) (pos a.missing_skill -ℤ pos b.missing_skill)
    (pos a.nurses_seen -ℤ pos b.nurses_seen) (pos a.overload -ℤ pos b.overload)

pub less-bills : (a b : NursingCosts) → less a b ≡ sub_bills (bill_in a) (bill_in b)
less-bills a b = refl

pub less-parts : (a b : NursingCosts) {x y : Bill} → bill_in a ≡ x → bill_in b ≡ y → less a b ≡ sub_bills x y
less-parts a b {x} {y} e f = less-bills a b ∙ (ap (λ c. sub_bills c (bill_in b)) e ∙ ap (sub_bills x) f)

pub less-by : {a b x y : NursingCosts} → a ≡ x → b ≡ y → less a b ≡ less x y
less-by {a} {b} {x} {y} e f = ap (λ c. less c b) e ∙ ap (less x) f

-- what increases by as much
pub apart-same : (a b x y : ℕ) → a + y ≡ x + b → (pos a -ℤ pos b) ≡ (pos x -ℤ pos y)
apart-same a b x y e = omega (arith, ints, e)

-- two differences are one where each number increases by as much
pub record AreApart (a b x y : NursingCosts) : Type 0 where
  pub off : a.off + y.off ≡ x.off + b.off
  pub uncovered : a.uncovered + y.uncovered ≡ x.uncovered + b.uncovered
  pub missing_skill : a.missing_skill + y.missing_skill ≡ x.missing_skill + b.missing_skill
  pub nurses_seen : a.nurses_seen + y.nurses_seen ≡ x.nurses_seen + b.nurses_seen
  pub overload : a.overload + y.overload ≡ x.overload + b.overload

pub less-same : (a b x y : NursingCosts) → AreApart a b x y → less a b ≡ less x y
less-same a b x y e =
    let o = apart-same a.off b.off x.off y.off e.off in
    let u = apart-same a.uncovered b.uncovered x.uncovered y.uncovered e.uncovered in
    let m = apart-same a.missing_skill b.missing_skill x.missing_skill y.missing_skill e.missing_skill in
    let s = apart-same a.nurses_seen b.nurses_seen x.nurses_seen y.nurses_seen e.nurses_seen in
    let v = apart-same a.overload b.overload x.overload y.overload e.overload in
    rw (o, u, m, s, v) refl

-- the costs of distinct nurses alone
abbrev pub nursed : ℕ → NursingCosts
nursed n = record { off = 0; uncovered = 0; missing_skill = 0; nurses_seen = n; overload = 0 }

-- the distinct nurses of each are those that are told, but for as many on both sides
pub care-change : (I : Draft) (P Q : Timetable) (x : PersonNo) (after before : ℕ)
    → after + distinct_nurses I (nurses_over P (shift_span_in I (admission_of I P x.0) (person_of I x.0).length_of_stay))
    ≡ distinct_nurses I (nurses_over Q (shift_span_in I (admission_of I Q x.0) (person_of I x.0).length_of_stay)) + before
    → less (nursed after) (nursed before) ≡ sub_bills (as_bill (part_at I Q (Care x))) (as_bill (part_at I P (Care x)))
care-change I P Q x after before e =
    let q = distinct_nurses I (nurses_over Q (shift_span_in I (admission_of I Q x.0) (person_of I x.0).length_of_stay)) in
    let p = distinct_nurses I (nurses_over P (shift_span_in I (admission_of I P x.0) (person_of I x.0).length_of_stay)) in
    less-same (nursed after) (nursed before) (nursed q) (nursed p) (record { off = refl; uncovered = refl; missing_skill = refl; nurses_seen = e; overload = refl })
    ∙ less-parts (nursed q) (nursed p) (shift_span-part I Q x q refl) (shift_span-part I P x p refl)
