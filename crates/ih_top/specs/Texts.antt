-- The texts that the program puts out: each is one text, in one put, and ends with a line feed. Those of files that
-- can't be had or written, of memory, and of a search that found none are in `ih_endings`.
use Rattle.std.specs.Prelude.{ℕ, Bool, true, false, List, ◌++◌, codes, decimal, length}
use Rattle.std.specs.List.{count_by}
use Rattle.ih_top.specs.Below.Wards.{Bill, Early, Extra, Grammar, Heading, JournalRefusal, Move, Number, Place, Price, Reason, Seen, Try, Verdict, Weights, Worker, bill_of, report}
use Rattle.ih_top.specs.Below.Searches.{Base, Entry, Tried, is_accepted, is_stale, plan_at, tries}
use Rattle.ih_journal.specs.declared.entries.Verdict.{Verdict as AnyVerdict}
use Rattle.ih_journal.specs.declared.entries.Verdict.TheVariants.{Declined}

-- how the program is called
unfoldable pub usage_text : List ℕ
usage_text = codes "usage: solve INSTANCE OUT JOURNAL, replay INSTANCE JOURNAL OUT, salvage INSTANCE JOURNAL OUT, check INSTANCE SOLUTION, advise INSTANCE SOLUTION, chain INSTANCE OUT JOURNAL, rounds INSTANCE OUT JOURNAL, gen NUMBER OUT or demo NUMBER\n"

-- the name of a reason
abbrev pub reason_text : Reason → List ℕ
reason_text Heading = codes "Heading"
reason_text Extra = codes "Extra"
reason_text Grammar = codes "Grammar"
reason_text Place = codes "Place"
reason_text Worker = codes "Worker"
reason_text Number = codes "Number"
reason_text Try = codes "Try"
reason_text Seen = codes "Seen"
reason_text Move = codes "Move"
reason_text Price = codes "Price"
reason_text Verdict = codes "Verdict"
reason_text Early = codes "Early"

-- the line of a journal that is refused, and why
abbrev pub journal_refused_text : JournalRefusal → List ℕ
journal_refused_text r =
    codes "journal refused: line " ++ (decimal r.line ++ (codes ": " ++ (reason_text r.reason ++ codes "\n")))

-- the place of the best among so many entries
abbrev pub best_line : ℕ → ℕ → List ℕ
best_line place entries = codes "best " ++ (decimal place ++ (codes " of " ++ (decimal entries ++ codes "\n")))

abbrev pub found_text : ℕ → ℕ → Weights → Bill → List ℕ
found_text place entries w b = best_line place entries ++ report w b

-- the place of a history's best, and the report on its timetable
abbrev pub done_text : Base → List Tried → ℕ → List ℕ
done_text b H k = found_text k (length H) b.instance.weights (bill_of b.instance (plan_at b H k))

-- how many of a journal's lines still count
abbrev pub salvaged_line : ℕ → List ℕ
salvaged_line lines = codes "salvaged " ++ (decimal lines ++ codes "\n")

-- how many of a journal's lines still count, then the place of their best and the report on its timetable
abbrev pub salvaged_text : Base → List Tried → ℕ → List ℕ
salvaged_text b H k = salvaged_line (length H) ++ done_text b H k

abbrev pub demo_line : ℕ → List ℕ
demo_line number = codes "demo " ++ (decimal number ++ codes "\n")

abbrev pub is_declined : AnyVerdict → Bool
is_declined Declined = true
is_declined v = false

-- how many entries have a verdict of a kind
abbrev pub verdicts_of : (AnyVerdict → Bool) → List Entry → ℕ
verdicts_of kind H = count_by (λ (e : Entry). kind e.verdict) H

-- how many moves were accepted, declined and stale
abbrev pub verdicts_line : ℕ → ℕ → ℕ → List ℕ
verdicts_line accepted declined stale =
    codes "accepted " ++ (decimal accepted ++ (codes " declined " ++ (decimal declined ++ (codes " stale "
    ++ (decimal stale ++ codes "\n")))))

-- how many moves of a history were accepted, declined and stale
abbrev pub counts_line : List Entry → List ℕ
counts_line H = verdicts_line (verdicts_of is_accepted H) (verdicts_of is_declined H) (verdicts_of is_stale H)

-- what is said of a search on the instance of a number
abbrev pub demo_text : ℕ → Base → List Entry → ℕ → List ℕ
demo_text number b H k = demo_line number ++ (counts_line H ++ done_text b (tries H) k)
