-- Bills that have the numbers of nursing alone.
use Rattle.std.specs.Prelude.{ℤ, pos, [], ◌∷◌}
use Rattle.ih_tables.specs.declared.bills.Bill.{Bill}

-- the bill with these numbers, and 0 for each other
abbrev pub nursing_bill : (off uncovered missing_skill nurses_seen overload : ℤ) → Bill
nursing_bill off uncovered missing_skill nurses_seen overload = record {
  v = pos 0 ∷ pos 0 ∷ pos 0 ∷ pos 0 ∷ pos 0 ∷ pos 0 ∷ pos 0 ∷ off ∷ uncovered ∷ [];
  s = pos 0 ∷ missing_skill ∷ nurses_seen ∷ overload ∷ pos 0 ∷ pos 0 ∷ pos 0 ∷ pos 0 ∷ [];
}
