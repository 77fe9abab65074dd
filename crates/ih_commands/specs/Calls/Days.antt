-- The day that `--from` names.
use Rattle.std.specs.Prelude.{◌==◌, Bool, true, List, length, Option, None, codes, if◌then◌else◌, is_some}
use Rattle.std.specs.Option.{option_map_or}
use Rattle.std.specs.Result.{result_ok}
use Rattle.ih_commands.specs.Below.Arguments.{DateParts, Row, Text, first_of, parse_date}

-- the day that a word names, if it names one: of the ways to write a date that the calendar's reader takes, only
-- 2026-01-05 has ten bytes
abbrev pub date_in : Text → Option DateParts
date_in word = if length word == 10 then result_ok (parse_date word) else None

-- the word of `--from` names a day, where there is such a word
abbrev pub names_a_day : List Row → Bool
names_a_day rows = option_map_or (λ word. is_some (date_in word)) (first_of (codes "from") rows) true
