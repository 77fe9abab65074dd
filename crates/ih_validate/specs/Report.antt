-- The report on a timetable: a line for each number of its bill, and its cost.
use Rattle.std.specs.Prelude.{ℕ, zero, suc, ◌+◌, ℤ, ◌*ℤ◌, List, [], ◌++◌, codes, decimal}
use Rattle.std.specs.Fmt.{signed_decimal}
use Rattle.ih_tables.specs.declared.bills.Bill.{Bill}
use Rattle.ih_tables.specs.declared.bills.Weights.{Weights}
use Rattle.ih_tables.specs.Bills.{at, cost}

-- n lines, one after the other
unfoldable pub lines_below : ℕ → (ℕ → List ℕ) → List ℕ
lines_below zero f = []
lines_below (suc n) f = lines_below n f ++ f n

-- how often a rule is broken
abbrev pub rule_line : ℕ → ℤ → List ℕ
rule_line i x = codes "V" ++ (decimal i ++ (codes " " ++ (signed_decimal x ++ codes "\n")))

-- a cost times its weight
abbrev pub cost_line : ℕ → ℤ → ℤ → List ℕ
cost_line i x w =
    codes "S" ++ (decimal i ++ (codes " " ++ (signed_decimal x
    ++ (codes " x " ++ (signed_decimal w ++ (codes " = " ++ (signed_decimal (x *ℤ w) ++ codes "\n")))))))

abbrev pub total_line : ℤ → List ℕ
total_line x = codes "cost " ++ (signed_decimal x ++ codes "\n")

unfoldable pub report : Weights → Bill → List ℕ
report w b =
    lines_below 9 (λ i. rule_line (i + 1) (at b.v i))
    ++ (lines_below 8 (λ i. cost_line (i + 1) (at b.s i) (at w.w i)) ++ total_line (cost w b))
