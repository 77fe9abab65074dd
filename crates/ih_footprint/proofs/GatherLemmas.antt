-- What calls in a row gather.
use Rattle.std.proofs.Common.{◌≡◌, ℕ, refl, sym, ap, subst, ◌∙◌, Bool, true, false, List, [], ◌∷◌, ◌++◌, inl, inr}
use Rattle.std.specs.Prelude.{◌||◌, ◌&&◌, ◌==◌, nat_eq, if◌then◌else◌}
use Rattle.std.proofs.lemmas.Bool.{cases_Bool, cases_eq, eq-eqb, ne_eqb, eqb-true, and_parts, and_from, false_from_ne_true}
use Rattle.std.proofs.lemmas.List.Folds.{list_any-append}
use Rattle.ih_tables.specs.declared.cells.Cell.{Cell}
use Rattle.ih_tables.specs.declared.cells.Cell.TheVariants.{Stay, RoomDay, TheatreDay, SurgeonDay, RoomShift, NurseShift, Care}
use Rattle.ih_tables.specs.Sizes.{NumberingState, sizes_of}
use Rattle.ih_tables.specs.declared.drafts.Draft.{Draft}
use Rattle.ih_plan.specs.declared.moves.Move.{Move}
use Rattle.ih_plan.specs.Timetable.{Timetable}
use Rattle.ih_plan.specs.Footprint.{touches, footprint}
use Rattle.ih_plan.specs.Sums.{which_below, is_listed}
use Rattle.ih_plan.proofs.ListedBelow.{which_below-same}
use Rattle.ih_plan.proofs.CellNumbers.{stay_cell, room_day_cell, theatre_day_cell, surgeon_day_cell, room_shift_cell, nurse_shift_cell, care_cell}
use Rattle.ih_plan.specs.Cells.{number_in, count_in, IsCellIn, IsCellOf, cell_in, cell_at, cell_count}
use Rattle.ih_footprint.specs.CellsState.{CellsState, Gathers, holds, same_cell, settled}
use Rattle.std.proofs.Math.Bool.{or-false, or_assoc}
use Rattle.ih_footprint.proofs.Ranked.{cell_in-number_in, number_in-cell_in, cell_in-in}

-- ---- one cell

both-same : (cell : ℕ → ℕ → Cell) (a b c d : ℕ) → ((a == c) && (b == d)) ≡ true → cell a b ≡ cell c d
both-same cell a b c d h = let parts = and_parts (a == c) (b == d) h in rw (eqb-true a c parts.0, eqb-true b d parts.1) refl

pub same_cell-self : (c : Cell) → same_cell c c ≡ true
unfolding same_cell
same_cell-self (Stay p) = eq-eqb p.0 p.0 refl
same_cell-self (RoomDay r d) = and_from (r.0 == r.0) (d.0 == d.0) (eq-eqb r.0 r.0 refl) (eq-eqb d.0 d.0 refl)
same_cell-self (TheatreDay r d) = and_from (r.0 == r.0) (d.0 == d.0) (eq-eqb r.0 r.0 refl) (eq-eqb d.0 d.0 refl)
same_cell-self (SurgeonDay r d) = and_from (r.0 == r.0) (d.0 == d.0) (eq-eqb r.0 r.0 refl) (eq-eqb d.0 d.0 refl)
same_cell-self (RoomShift r d) = and_from (r.0 == r.0) (d.0 == d.0) (eq-eqb r.0 r.0 refl) (eq-eqb d.0 d.0 refl)
same_cell-self (NurseShift r d) = and_from (r.0 == r.0) (d.0 == d.0) (eq-eqb r.0 r.0 refl) (eq-eqb d.0 d.0 refl)
same_cell-self (Care x) = eq-eqb x.0 x.0 refl

same_cell-true : (c e : Cell) → same_cell c e ≡ true → c ≡ e
unfolding same_cell
same_cell-true (Stay a) (Stay c) h = ap stay_cell (eqb-true a.0 c.0 h)
same_cell-true (RoomDay a b) (RoomDay c d) h = both-same room_day_cell a.0 b.0 c.0 d.0 h
same_cell-true (TheatreDay a b) (TheatreDay c d) h = both-same theatre_day_cell a.0 b.0 c.0 d.0 h
same_cell-true (SurgeonDay a b) (SurgeonDay c d) h = both-same surgeon_day_cell a.0 b.0 c.0 d.0 h
same_cell-true (RoomShift a b) (RoomShift c d) h = both-same room_shift_cell a.0 b.0 c.0 d.0 h
same_cell-true (NurseShift a b) (NurseShift c d) h = both-same nurse_shift_cell a.0 b.0 c.0 d.0 h
same_cell-true (Care a) (Care c) h = ap care_cell (eqb-true a.0 c.0 h)
same_cell-true _ _ h = absurd (let no : false ≡ true = h in cc)

-- cells in range are the same where their numbers are
same_number : (z : NumberingState) (c e : Cell) → IsCellIn z c → IsCellIn z e → (number_in z e == number_in z c) ≡ same_cell c e
same_number z c e hc he = elim (cases_eq (number_in z e) (number_in z c)) [
  | inl same ↦
      let cells : c ≡ e = sym (cell_in-number_in z c hc) ∙ (ap (cell_in z) (sym same) ∙ cell_in-number_in z e he) in
      eq-eqb (number_in z e) (number_in z c) same ∙ sym (subst (λ f. same_cell c f ≡ true) cells (same_cell-self c))
  | inr other ↦
      ne_eqb (number_in z e) (number_in z c) other ∙ sym (false_from_ne_true (same_cell c e) (λ h. other (ap (number_in z) (sym (same_cell-true c e h)))))
]

-- a number is added
pub listed-added : (n i : ℕ) (xs : List ℕ) → is_listed i (if is_listed n xs then xs else xs ++ n ∷ []) ≡ (is_listed i xs || (i == n))
listed-added n i xs = elim (cases_Bool (is_listed n xs)) [
  | inl there ↦ rw there (elim (cases_eq i n) [
    | inl same ↦ rw (same, there) refl
    | inr other ↦ rw (ne_eqb i n other) (sym (or-false (is_listed i xs)))
  ])
  | inr gone ↦ rw gone (list_any-append (nat_eq i) xs (n ∷ []) ∙ ap (λ b. is_listed i xs || b) (or-false (i == n)))
]

pub gathers-one : (v w : CellsState) (c : Cell) (n : ℕ) → IsCellIn v.sizes c → n ≡ number_in v.sizes c → w.sizes ≡ v.sizes
    → ((i : ℕ) → is_listed i w.cells ≡ (is_listed i v.cells || (i == n))) → Gathers v w (same_cell c)
gathers-one v w c n inside number sizes added = record {
  sizes = sizes;
  cells = λ e range.
      ap (λ z. is_listed (number_in z e) w.cells) sizes ∙ (added (number_in v.sizes e)
      ∙ (ap (λ k. holds v e || (number_in v.sizes e == k)) number ∙ ap (λ b. holds v e || b) (same_number v.sizes c e inside range)));
}

pub gathers-added : (v w : CellsState) (c : Cell) (n : ℕ) → IsCellIn v.sizes c → n ≡ number_in v.sizes c → w.sizes ≡ v.sizes
    → w.cells ≡ (if is_listed n v.cells then v.cells else v.cells ++ n ∷ []) → Gathers v w (same_cell c)
gathers-added v w c n inside number sizes cells =
    gathers-one v w c n inside number sizes (λ i. ap (is_listed i) cells ∙ listed-added n i v.cells)

-- ---- calls in a row

pub gathers-like : {v w : CellsState} {p q : Cell → Bool} → ((c : Cell) → IsCellIn v.sizes c → p c ≡ q c) → Gathers v w p → Gathers v w q
gathers-like {v} same g = record { sizes = g.sizes; cells = λ c range. g.cells c range ∙ ap (λ b. holds v c || b) (same c range) }

pub gathers-both : {u v w : CellsState} {p q : Cell → Bool} → Gathers u v p → Gathers v w q → Gathers u w (λ c. p c || q c)
gathers-both {u} {v} {w} {p} {q} one two = record {
  sizes = two.sizes ∙ one.sizes;
  cells = λ c range.
      two.cells c (subst (λ z. IsCellIn z c) (sym one.sizes) range) ∙ (ap (λ b. b || q c) (one.cells c range) ∙ or_assoc (holds u c) (p c) (q c));
}

-- nothing is gathered
pub gathers-none : {v : CellsState} {p : Cell → Bool} → ((c : Cell) → p c ≡ false) → Gathers v v p
gathers-none {v} none = record { sizes = refl; cells = λ c range. sym (ap (λ b. holds v c || b) (none c) ∙ or-false (holds v c)) }

-- ---- the list, settled

-- where the list has just the cells that pass, its numbers are theirs, rising
pub settled-gathered : (I : Draft) (v : CellsState) (passes : Cell → Bool) → v.sizes ≡ sizes_of I → ((c : Cell) → IsCellOf I c → holds v c ≡ passes c)
    → settled v ≡ which_below (cell_count I) (λ n. passes (cell_at I n))
settled-gathered I v passes sizes same =
    ap (λ z. which_below (count_in z) (λ n. is_listed n v.cells)) sizes
    ∙ which_below-same (cell_count I) (λ n. is_listed n v.cells) (λ n. passes (cell_at I n)) (λ n h.
    let back : number_in v.sizes (cell_at I n) ≡ n = ap (λ z. number_in z (cell_at I n)) sizes ∙ number_in-cell_in (sizes_of I) n h in
    sym (ap (λ i. is_listed i v.cells) back) ∙ same (cell_at I n) (cell_in-in (sizes_of I) n h))

-- so a list that has just the cells of a move's footprint settles to the footprint
pub settled-footprint : (I : Draft) (P : Timetable) (m : Move) (v : CellsState) → v.sizes ≡ sizes_of I → ((c : Cell) → IsCellOf I c → holds v c ≡ touches I P m c)
    → settled v ≡ footprint I P m
unfolding footprint
settled-footprint I P m v sizes same = settled-gathered I v (touches I P m) sizes same

-- ---- what is put into a set, gathered there and listed anew

module _ (v a b w : CellsState) (sizes : a.sizes ≡ v.sizes) (own : (i : ℕ) → is_listed i a.cells ≡ is_listed i v.cells)
    (kept : w.sizes ≡ b.sizes) (listed : w.cells ≡ b.cells) where
  as_set : ◌≡◌ {A = CellsState} w b
  as_set = rw (kept, listed) refl

  pub gathers-relisted : (p : Cell → Bool) → Gathers a b p → Gathers v w p
  gathers-relisted p g = subst (λ x. Gathers v x p) (sym as_set) (record {
    sizes = g.sizes ∙ sizes;
    cells = λ c inside.
        let within : IsCellIn a.sizes c = subst (λ z. IsCellIn z c) (sym sizes) inside in
        g.cells c within ∙ ap (λ k. k || p c) (own (number_in a.sizes c) ∙ ap (λ z. is_listed (number_in z c) v.cells) sizes);
  })

  pub rising-relisted : b.cells ≡ settled b → w.cells ≡ settled w
  rising-relisted rising = subst (λ x. x.cells ≡ settled x) (sym as_set) rising
