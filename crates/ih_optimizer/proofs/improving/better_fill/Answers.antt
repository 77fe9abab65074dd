use Rattle.std.proofs.Common.{◌≡◌, ◌∙◌, ap, sym, Bool, true, false, ℕ}
use Rattle.std.specs.Prelude.{if◌then◌else◌}
use Rattle.ih_optimizer.specs.Below.Wards.{Draft, Timetable, bill_of, feasible}
use Rattle.ih_optimizer.specs.Below.Searches.{fill, is_better, of_bill}
use Rattle.ih_optimizer.specs.Searching.{begun, cheaper_fill}
use Rattle.ih_optimizer.proofs.improving.better_fill.Goals.{then-feasible+else-not-is_better, else-feasible}
use Rattle.ih_optimizer.proofs.improving.better_fill.Goals as goal

-- the fill is better
abbrev fill_is_better : Draft → ℕ → Timetable → Bool
fill_is_better I h P = is_better h 0 I.weights (of_bill (bill_of I (fill I h P))) (of_bill (bill_of I P))

begun-given : (I : Draft) (h : ℕ) (P : Timetable) → feasible (bill_of I P) ≡ true → fill_is_better I h P ≡ false → begun true h I P ≡ P
begun-given I h P whole worse =
    ap (λ (b : Bool). if b then cheaper_fill h I P else fill I h P) whole ∙ ap (λ (b : Bool). if b then fill I h P else P) worse

begun-better : (I : Draft) (h : ℕ) (P : Timetable) → feasible (bill_of I P) ≡ true → fill_is_better I h P ≡ true → begun true h I P ≡ fill I h P
begun-better I h P whole better =
    ap (λ (b : Bool). if b then cheaper_fill h I P else fill I h P) whole ∙ ap (λ (b : Bool). if b then fill I h P else P) better

begun-infeasible : (I : Draft) (h : ℕ) (P : Timetable) → feasible (bill_of I P) ≡ false → begun true h I P ≡ fill I h P
begun-infeasible I h P broken = ap (λ (b : Bool). if b then cheaper_fill h I P else fill I h P) broken

pub returns-then-not-is_better-clause-start : goal.returns-then-not-is_better-clause-start
returns-then-not-is_better-clause-start c =
    let I = c.args.inst.now.draft in
    let h = c.args.hard in
    let P = c.args.given.now in
    let whole = sym (c.feasible.ensures ∙ ap feasible c.bill-before.ensures.value) ∙ c.if-feasible.true in
    let worse : fill_is_better I h P ≡ false =
    rw (c.of_bill-after.ensures, c.bill.ensures.value, c.in_ok-filled.ensures.filled, c.of_bill.ensures, c.bill-before.ensures.value) at
    (sym c.is_better.ensures ∙ c.if-not-is_better.true) in
    sym (ap (λ (b : Bool). begun b h I P) c.if-not-is_filled.false ∙ begun-given I h P whole worse)

pub returns-clause-start : goal.returns-clause-start
returns-clause-start c =
    let I = c.args.inst.now.draft in
    let h = c.args.hard in
    let P = c.args.given.now in
    let before = c.bill-before.ensures.value in
    let filled = c.in_ok-filled.ensures.filled in
    let seen = sym (c.feasible.ensures ∙ ap feasible before) in
    let asked = ap (λ (b : Bool). begun b h I P) c.if-not-is_filled.false in
    elim c.if-feasible.branch [
      | then-feasible+else-not-is_better w ↦
          let better : fill_is_better I h P ≡ true =
          rw (w.of_bill-after.ensures, w.bill.ensures.value, filled, w.of_bill.ensures, before) at (sym w.is_better.ensures ∙ w.if-not-is_better.false) in
          filled ∙ sym (asked ∙ begun-better I h P (seen ∙ w.if-feasible.true) better)
      | else-feasible w ↦ filled ∙ sym (asked ∙ begun-infeasible I h P (seen ∙ w.if-feasible.false))
    ]
