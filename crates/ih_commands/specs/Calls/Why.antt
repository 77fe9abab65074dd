-- The command `why`: its description for `clap`, its values and what it comes to.
use Rattle.std.specs.Prelude.{◌≡◌, ◌≢◌, ◌⊎◌, ◌==◌, ℕ, ◌≤◌, Bool, List, [], ◌++◌, length, Option, Some, None, codes, if◌then◌else◌, option_map, unwrap_or}
use Rattle.ih_commands.specs.Below.Wards.{Draft, MAX_WORKERS, Timetable}
use Rattle.ih_commands.specs.Below.Arguments.{App, Row, Text, first_of, named, new_app, number_if_given, optional_between, optional_name, text_at, with_rule}
use Rattle.ih_commands.specs.Below.Endings.{Given, InputFiles, OutcomeState, said_files, says}
use Rattle.ih_commands.specs.Below.Searches.{NoneIsFeasible}
use Rattle.ih_why.specs.Account.{account}
use Rattle.ih_why.specs.Shortages.{IsToldTogether}
use Rattle.ih_waiting.specs.Waiting.{waiting_text}
use Rattle.ih_mends.specs.Texts.{mends_text}
use Rattle.ih_warnings.specs.Warnings.{warnings}
use Rattle.ih_commands.specs.Calls.Bound.{judged_status}
use Rattle.ih_commands.specs.declared.command.common.TheConstants.{DEFAULT_WORKERS}
use Rattle.ih_commands.specs.declared.command.why.Why.{Why}

-- why INSTANCE [SOLUTION] [--workers N]
unfoldable pub why_app : App
why_app = with_rule (with_rule (with_rule
    (new_app (codes "why"))
    (named (codes "INSTANCE")))
    (optional_name (codes "SOLUTION")))
    (optional_between (codes "workers") 1 MAX_WORKERS)

-- what a call of why asks for; a file's name is its bytes
pub record WhyCall : Type 0 where
  pub instance : Text
  pub solution : Option Text
  pub workers : ℕ

-- the call that the values of why stand for
abbrev pub why_call : Why → WhyCall
why_call w = record { instance = w.instance.now; solution = option_map (λ t. t.now) w.solution; workers = w.workers }

-- its workers are no more than there may be
abbrev pub HasFewToAsk : Why → Type 0
HasFewToAsk w = w.workers ≤ MAX_WORKERS

-- the files that the call reads
abbrev pub why_inputs : WhyCall → InputFiles
why_inputs w = said_files w.instance w.solution

-- the call of why, by `clap`'s matches
abbrev pub why_in : List Row → WhyCall
why_in rows = record {
  instance = text_at (codes "INSTANCE") rows;
  solution = first_of (codes "SOLUTION") rows;
  workers = unwrap_or (number_if_given (codes "workers") rows) DEFAULT_WORKERS;
}

-- each call that `clap` finds no fault in is lawful: it writes no file
abbrev pub lawful_why : List Row → Option WhyCall
lawful_why rows = Some (why_in rows)

-- ---- what it comes to

-- a text says nothing
abbrev pub says_nothing : List ℕ → Bool
says_nothing causes = length causes == 0

-- Why no plan can keep all rules: the account of what one patient, room or shift alone shows. Where that says nothing,
-- what all together show, if they do. Where there are causes, no timetable is feasible.
pub record AreCauses (I : Draft) (causes : List ℕ) : Type 0 where
  pub single : account I ≢ [] → causes ≡ account I
  pub together : account I ≡ [] → (causes ≡ []) ⊎ IsToldTogether I causes
  pub hold : causes ≢ [] → NoneIsFeasible I

-- what is said where there is none
abbrev pub nothing_text : List ℕ
nothing_text = codes "nothing found that no plan can keep\n"

-- what is said by the causes
abbrev pub why_text : List ℕ → List ℕ
why_text causes = if says_nothing causes then nothing_text else causes

-- what is said of a timetable: who waits, and what mends each rule that is broken
abbrev pub plan_text : Draft → Timetable → List ℕ
plan_text I P = waiting_text I P ++ mends_text I P

-- it is said where a file is named for the timetable
abbrev pub plan_text_in : Option Text → Draft → Timetable → List ℕ
plan_text_in None I P = []
plan_text_in (Some name) I P = plan_text I P

-- all that is said: the causes, what is said of the timetable, and what may be a slip in the instance
abbrev pub explanation : Option Text → Draft → Timetable → List ℕ → List ℕ
explanation solution I P causes = why_text causes ++ plan_text_in solution I P ++ warnings I

-- What a call of why comes to: the causes are said, or that none was found, with a status by which of the two; then who
-- waits and what mends broken rules, and the warnings. Nothing is written.
pub record IsExplained (w : WhyCall) (g : Given) (o : OutcomeState) : Type 0 where
  pub causes : List ℕ
  pub are_causes : AreCauses g.instance causes
  pub said : o ≡ says (judged_status (says_nothing causes)) (explanation w.solution g.instance g.plan causes)
