-- The command `bound`: its description for `clap`, its values and what it comes to.
use Rattle.std.specs.Prelude.{◌≡◌, ℕ, ◌≤◌, Bool, true, false, List, [], ◌++◌, Option, Some, codes, option_map, unwrap_or}
use Rattle.ih_commands.specs.Below.Wards.{Draft, MAX_WORKERS, Timetable}
use Rattle.ih_commands.specs.Below.Arguments.{App, IsNumberIfGiven, Row, Text, first_of, flag, flag_at, named, new_app, number_if_given, optional_between, optional_name, text_at, with_rule}
use Rattle.ih_commands.specs.Below.Endings.{Done, Given, Infeasible as NotFeasible, InputFiles, OutcomeState, Status, said_files, says}
use Rattle.ih_commands.specs.Below.Searches.{AddUp, HasGap, HoldsOfAll, IsFoundIn, IsHinted, Judged, Outcome, bound_text, judged, no_infeasibility}
use Rattle.ih_commands.specs.declared.command.bound.Bound.{Bound}
use Rattle.ih_optimizer.specs.declared.improving.TheConstants.{DEFAULT_BOUND_ROUNDS}
use Rattle.ih_commands.specs.declared.command.bound.TheConstants.{MAX_BOUND_ROUNDS}
use Rattle.ih_commands.specs.declared.command.common.TheConstants.{DEFAULT_WORKERS}

-- bound INSTANCE [SOLUTION] [--rounds N] [--workers N] [--prices]
unfoldable pub bound_app : App
bound_app = with_rule (with_rule (with_rule (with_rule (with_rule
    (new_app (codes "bound"))
    (named (codes "INSTANCE")))
    (optional_name (codes "SOLUTION")))
    (optional_between (codes "rounds") 1 MAX_BOUND_ROUNDS))
    (optional_between (codes "workers") 1 MAX_WORKERS))
    (flag (codes "prices"))

-- what a call of bound asks for; a file's name is its bytes
pub record BoundCall : Type 0 where
  pub instance : Text
  pub solution : Option Text
  -- how often prices are tried at most
  pub rounds : ℕ
  pub workers : ℕ
  -- it is told where more beds, or more time, would help
  pub prices : Bool

-- the call that the values of bound stand for
abbrev pub bound_call : Bound → BoundCall
bound_call b = record {
  instance = b.instance.now;
  solution = option_map (λ t. t.now) b.solution;
  rounds = b.rounds;
  workers = b.workers;
  prices = b.prices;
}

-- its workers are no more than there may be
abbrev pub HasFewWorkers : Bound → Type 0
HasFewWorkers b = b.workers ≤ MAX_WORKERS

-- the files that the call reads
abbrev pub bound_inputs : BoundCall → InputFiles
bound_inputs c = said_files c.instance c.solution

-- the numbers that the matches of bound give are within their limits
pub record HasBound (rows : List Row) : Type 0 where
  pub rounds : IsNumberIfGiven 1 MAX_BOUND_ROUNDS (codes "rounds") rows
  pub workers : IsNumberIfGiven 1 MAX_WORKERS (codes "workers") rows

-- the call of bound, by `clap`'s matches
abbrev pub bound_in : List Row → BoundCall
bound_in rows = record {
  instance = text_at (codes "INSTANCE") rows;
  solution = first_of (codes "SOLUTION") rows;
  rounds = unwrap_or (number_if_given (codes "rounds") rows) DEFAULT_BOUND_ROUNDS;
  workers = unwrap_or (number_if_given (codes "workers") rows) DEFAULT_WORKERS;
  prices = flag_at (codes "prices") rows;
}

-- each call that `clap` finds no fault in is lawful: it writes no file
abbrev pub lawful_bound : List Row → Option BoundCall
lawful_bound rows = Some (bound_in rows)

-- ---- what it comes to

-- the timetable beside the bound, where a file is named for it
abbrev pub judged_of : Option Text → Draft → Timetable → Option Judged
judged_of solution I P = option_map (λ name. judged I P) solution

-- the status by whether nothing infeasible was found
abbrev pub judged_status : Bool → Status
judged_status true = Done
judged_status false = NotFeasible

-- what is told of the prices: nothing where the call doesn't ask for it
abbrev pub hints_told : Bool → Draft → Outcome → List ℕ → Type 0
hints_told true I outcome text = IsHinted I outcome text
hints_told false I outcome text = text ≡ []

abbrev pub IsToldOf : BoundCall → Draft → Outcome → List ℕ → Type 0
IsToldOf c = hints_told c.prices

-- What a call of bound comes to: what is said holds of all feasible timetables of the instance, and was found in as many
-- rounds as the call asks for, or fewer. Nothing is written.
pub record IsBounded (c : BoundCall) (g : Given) (o : OutcomeState) : Type 0 where
  pub outcome : Outcome
  pub holds : HoldsOfAll g.instance outcome
  pub parts : AddUp outcome
  pub rounds : IsFoundIn c.rounds outcome
  pub gap : HasGap g.instance g.plan outcome
  pub hints : List ℕ
  pub told : IsToldOf c g.instance outcome hints
  pub said : o ≡ says (judged_status (no_infeasibility (judged_of c.solution g.instance g.plan) outcome))
      (bound_text (judged_of c.solution g.instance g.plan) outcome ++ hints)
