-- Literal bases, options and entries of the worked examples, one constructor each.
use Rattle.std.proofs.Common.{ℕ, [], ◌∷◌}
use Rattle.std.specs.Prelude.{⊤}
use Rattle.std.specs.Fmt.{digits}
use Rattle.ih_tables.specs.declared.drafts.Draft.{Draft}
use Rattle.ih_tables.specs.declared.bills.Bill.{Bill}
use Rattle.ih_plan.specs.declared.moves.Move.{Move}
use Rattle.ih_plan.specs.Timetable.{Timetable}
use Rattle.ih_plan.specs.Series.{after_all, all_touch, expand_all, price_of_all}
use Rattle.ih_plan.proofs.MoveExamples.{draws_on_literals, moves_on_literals}
use Rattle.ih_journal.specs.declared.settings.Options.{Options}
use Rattle.ih_journal.specs.declared.entries.Entry.{Entry}
use Rattle.ih_journal.specs.declared.entries.Verdict.{Verdict}
use Rattle.ih_journal.specs.Base.{Base}
use Rattle.ih_journal.specs.Frozen.{is_frozen}
use Rattle.ih_journal.specs.Attempts.{last_by, is_done, next_try}
use Rattle.ih_journal.specs.History.{after_entries, touched_since, touches_since}
use Rattle.ih_journal.specs.Legal.{verdict_on, first_touched}
use Rattle.ih_journal.specs.Texts.{move_text, cell_text, fields, heading, lines_from}

-- every definition that a worked example computes
unfoldable pub history_on_literals : ⊤
unfolding digits moves_on_literals draws_on_literals after_all all_touch expand_all is_frozen last_by is_done next_try after_entries
    touched_since touches_since verdict_on first_touched move_text cell_text fields heading lines_from
history_on_literals = tt

-- the options of a search with a hard weight of 1,000: seed, workers, moves, heat, retries
abbrev pub options : ℕ → ℕ → ℕ → ℕ → ℕ → Options
options seed workers moves heat retries =
    record { seed = seed; workers = workers; moves = moves; heat = heat; hard = 1000; retries = retries }

-- a search from a start: the freeze day and the options
abbrev pub base : Draft → Timetable → ℕ → Options → Base
base I start freeze o = record { instance = I; start = start; options = o; freeze = freeze }

-- an entry: worker, number, try, seen, move, price and verdict
abbrev pub entry : ℕ → ℕ → ℕ → ℕ → Move → Bill → Verdict → Entry
entry worker number again seen mv price verdict =
    record { worker = worker; number = number; again = again; seen = seen; mv = mv; price = price; verdict = verdict }

-- what one move costs
abbrev pub price_of : Draft → Timetable → Move → Bill
price_of I P m = price_of_all I P (m ∷ [])
