-- How a call of a command ends.
use Rattle.std.specs.Prelude.{◌≡◌, ℕ, ◌⊎◌, List, Option, Result, Ok, Err}
use Rattle.ih_shelf.specs.Outside.{IfTold, Names}
use Rattle.ih_inputs.specs.Reading.{Given, HasGiven, InputFiles}
use Rattle.ih_endings.specs.declared.status.Status.{Status}
use Rattle.ih_endings.specs.declared.status.Status.TheVariants.{OutOfMemory, ReadFault, WriteFault}
use Rattle.ih_endings.specs.Ends.{Unchanged}
use Rattle.ih_endings.specs.Inputs.{EndsUnread}
use Rattle.ih_endings.specs.Texts.{memory_text}
use Rattle.ih_frame.specs.Outcomes.{IsLeft, OutcomeState, outcome_of}
use Rattle.ih_frame.specs.declared.outcome.Outcome.{Outcome}

-- The files give what the command came to its outcome by, and that outcome is left.
pub record IsPerformed (comes_to : Given → OutcomeState → Type 0) (r : InputFiles) (old new : Option Names)
    (status : Status) (text : List ℕ) : Type 0 where
  pub given : Given
  pub read : HasGiven old r given
  pub outcome : OutcomeState
  pub comes : comes_to given outcome
  pub left : IsLeft outcome old new status text

-- How a call of a command ends that reads these files and comes to outcomes so: it comes no further than its files, or
-- memory runs out, and nothing is changed; or it is performed.
abbrev pub CommandEnds : (Given → OutcomeState → Type 0) → InputFiles → Option Names → Option Names → Status → List ℕ
    → Type 0
CommandEnds comes_to r old new status text =
    (IfTold Unchanged old new × EndsUnread old r status text) ⊎ IsPerformed comes_to r old new status text

-- how a call ends whose outcome was made, or memory ran out before
abbrev pub MadeEnds : {E : Type 0} → Result Outcome E → Option Names → Option Names → Status → List ℕ → Type 0
MadeEnds (Ok o) old new status text = IsLeft (outcome_of o) old new status text
MadeEnds (Err e) old new status text = IfTold Unchanged old new × (status ≡ OutOfMemory) × (text ≡ memory_text)

-- the status of a call in which no read, write or put failed
abbrev pub HasNoFault : Status → Type 0
HasNoFault (ReadFault role) = ⊥
HasNoFault (WriteFault role) = ⊥
HasNoFault status = Unit {0}

-- each outcome that a command may come to has one of these statuses, and where memory runs out it is one too
pub record AreAnswers (comes_to : Given → OutcomeState → Type 0) (answers : Status → Type 0) : Type 0 where
  pub outcomes : (g : Given) (o : OutcomeState) → comes_to g o → answers o.status
  pub memory : answers OutOfMemory
