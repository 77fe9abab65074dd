-- The sentences, of plain texts and numbers.
use Rattle.std.specs.Prelude.{ℕ, ℤ, pos, negsuc, ◌==◌, Bool, List, ◌++◌, codes, decimal, if◌then◌else◌}
use Rattle.std.specs.Fmt.{signed_decimal}

-- a patient, whether one who must come, and on which day, if on any
unfoldable pub line_text : List ℕ → Bool → List ℕ → List ℕ
line_text patient mandatory day =
    patient ++ ((if mandatory then codes " must come, and could on " else codes " could come on ") ++ (day ++ codes "\n"))

-- the patient may get no stay at all
unfoldable pub no_day_text : List ℕ
no_day_text = codes "no day: no room suits, the window is empty, or there is no theatre"

unfoldable pub place_text : ℕ → List ℕ → List ℕ → List ℕ
place_text day room theatre =
    codes "day " ++ (decimal day ++ (codes " to " ++ (room ++ (codes ", theatre " ++ theatre))))

-- a number with its sign, and +0
unfoldable pub signed_text : ℤ → List ℕ
signed_text (pos n) = codes "+" ++ signed_decimal (pos n)
signed_text (negsuc n) = signed_decimal (negsuc n)

-- how many units of rules more are broken, if any, and what is added to the cost
unfoldable pub change_text : ℕ → ℤ → List ℕ
change_text more cost =
    if more == 0
    then codes ": cost " ++ signed_text cost
    else (codes " only by breaking rules: " ++ (decimal more ++ (codes " more, cost " ++ signed_text cost)))
