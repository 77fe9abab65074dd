-- The text of advice.
use Rattle.std.specs.Prelude.{ℕ, List, [], ◌∷◌, ◌++◌, Some, None, codes, decimal, length, flat_map, ◌==◌, if◌then◌else◌}
use Rattle.std.specs.Fmt.{signed_decimal}
use Rattle.ih_plan.specs.declared.moves.Write.{Write}
use Rattle.ih_plan.specs.declared.moves.Write.TheVariants.{SetStay, SetCare}
use Rattle.ih_journal.specs.Texts.{named, price_text}
use Rattle.ih_advise.specs.declared.choosing.Advice.{Advice}

-- the write's name and its numbers; `none` where nothing is chosen
abbrev pub write_text : Write → List ℕ
write_text (SetStay p (Some at)) = named (codes "setstay") (p.0 ∷ at.day.0 ∷ at.room.0 ∷ at.theatre.0 ∷ [])
write_text (SetStay p None) = named (codes "setstay") (p.0 ∷ []) ++ codes ",none"
write_text (SetCare r k (Some n)) = named (codes "setcare") (r.0 ∷ k.0 ∷ n.0 ∷ [])
write_text (SetCare r k None) = named (codes "setcare") (r.0 ∷ k.0 ∷ []) ++ codes ",none"

-- the write, the score and the price, each parted from the next by a space
abbrev pub advice_line : Advice → List ℕ
advice_line a =
    write_text a.write ++ (codes " " ++ (signed_decimal a.score ++ (codes " " ++ (price_text a.price ++ codes "\n"))))

-- how many choices can be improved
abbrev pub last_line : ℕ → List ℕ
last_line n = if n == 0 then codes "locally best\n" else (codes "improvable " ++ (decimal n ++ codes "\n"))

-- a line for each advice, and the last line
unfoldable pub advice_text : List Advice → List ℕ
advice_text advice = flat_map advice_line advice ++ last_line (length advice)
