-- Laws of calls of the program.
use Rattle.std.specs.Prelude.{◌≡◌, ◌≢◌, ℕ, List, [], ◌++◌, Option}
use Rattle.ih_commands.specs.Below.Endings.{Given, HasGiven, Infeasible, Names}
use Rattle.ih_commands.specs.Below.Searches.{NoneIsFeasible}
use Rattle.ih_commands.specs.Calls.{why}
use Rattle.ih_commands.specs.Calls.Why.{AreCauses, WhyCall, why_inputs}
use Rattle.ih_commands.specs.Ends.{CallEnds}

-- what is said begins with causes that hold of the instance that the call reads, and no timetable of that is feasible
pub record HasNoPlan (w : WhyCall) (old : Option Names) (text : List ℕ) : Type 0 where
  pub given : Given
  pub read : HasGiven old (why_inputs w) given
  pub causes : List ℕ
  pub are_causes : AreCauses given.instance causes
  pub some : causes ≢ []
  pub said : (more : List ℕ) × (text ≡ causes ++ more)
  pub none : NoneIsFeasible given.instance

-- a call of why that ends with the status of an infeasible instance says why it is one
abbrev pub ExplainedCallsHaveNoPlan : Type 0
ExplainedCallsHaveNoPlan =
    (w : WhyCall) (old new : Option Names) (text : List ℕ) → CallEnds (why w) old new Infeasible text
    → HasNoPlan w old text
