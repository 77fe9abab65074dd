-- How a call ends that goes on in steps: each comes to an outcome, as a command does.
use Rattle.std.specs.Prelude.{◌≡◌, ◌≢◌, ℕ, ◌+◌, ◌≤◌, ◌⊎◌, List, [], ◌∷◌, ◌++◌, length, Option}
use Rattle.ih_shelf.specs.Outside.{IfTold, Names}
use Rattle.ih_endings.specs.declared.status.Status.{Status}
use Rattle.ih_endings.specs.declared.status.Status.TheVariants.{Done, OutOfMemory}
use Rattle.ih_inputs.specs.Reading.{InputFiles}
use Rattle.ih_endings.specs.Ends.{Unchanged}
use Rattle.ih_endings.specs.Inputs.{EndsUnread}
use Rattle.ih_endings.specs.Texts.{memory_text}
use Rattle.ih_frame.specs.Outcomes.{AreWritten, IsLeft, OutcomeState}

-- Steps that lead from x to y, by what each came to. The last one comes first in the list.
abbrev pub AreSteps : {X : Type 0} → (X → OutcomeState → X → Type 0) → X → List OutcomeState → X → Type 0
AreSteps steps_to x [] y = y ≡ x
AreSteps {X} steps_to x (o ∷ earlier) y = (w : X) × AreSteps steps_to x earlier w × steps_to w o y

-- the files of all these steps are written, those of the earliest first
abbrev pub AreAllWritten : List OutcomeState → Names → Names → Type 0
AreAllWritten [] old new = Unchanged old new
AreAllWritten (o ∷ earlier) old new = (mid : Names) × AreAllWritten earlier old mid × AreWritten o.writes mid new

-- the texts of all these steps, that of the earliest first
abbrev pub told : List OutcomeState → List ℕ
told [] = []
told (o ∷ earlier) = told earlier ++ o.text

-- steps that are over: they led from x to where the call is now, and their files are written
pub record AreTaken {X : Type 0} (steps_to : X → OutcomeState → X → Type 0) (x : X) (old new : Option Names) : Type 0
  where
    pub steps : List OutcomeState
    pub now : X
    pub are : AreSteps steps_to x steps now
    pub written : IfTold (AreAllWritten steps) old new

-- how a call goes on to its end that has come to x
abbrev pub EndsFrom : {X : Type 0} → (X → OutcomeState → X → Type 0) → (X → OutcomeState → Type 0) → X → Option Names
    → Option Names → Status → List ℕ → Type 0
EndsFrom {X} steps_to ends_as x old new status text =
    -- memory ran out before the next outcome was made
    (IfTold Unchanged old new × (status ≡ OutOfMemory) × (text ≡ memory_text))
    -- a further step can't be done, or can't be said
    ⊎ ((status ≢ Done) × ((o : OutcomeState) × (y : X) × steps_to x o y × IsLeft o old new status text))
    -- all steps are over, and this is what the call comes to
    ⊎ ((o : OutcomeState) × ends_as x o × IsLeft o old new status text)

-- How a call ends that goes on from x in at most so many steps: some are taken and told, and then it ends.
pub record StepsEnds {X : Type 0} (steps_to : X → OutcomeState → X → Type 0) (ends_as : X → OutcomeState → Type 0)
    (count : ℕ) (x : X) (old new : Option Names) (status : Status) (text : List ℕ) : Type 0 where
  pub mid : Option Names
  pub taken : AreTaken steps_to x old mid
  pub few : length taken.steps ≤ count
  pub rest : List ℕ
  pub said : text ≡ told taken.steps ++ rest
  pub ends : EndsFrom steps_to ends_as taken.now mid new status rest

-- How a call ends that reads its files before it goes on in steps: they can't be had, or memory ran out; or it goes on
-- from where it begins.
abbrev pub BegunEnds : {X : Type 0} → (X → Type 0) → (X → OutcomeState → X → Type 0) → (X → OutcomeState → Type 0) → ℕ
    → InputFiles → Option Names → Option Names → Status → List ℕ → Type 0
BegunEnds {X} begins steps_to ends_as count r old new status text =
    (IfTold Unchanged old new × EndsUnread old r status text)
    ⊎ ((x : X) × begins x × StepsEnds steps_to ends_as count x old new status text)

-- no more puts than so many were counted
abbrev pub ArePutsAtMost : ℕ → ℕ → ℕ → Type 0
ArePutsAtMost n old new = new ≤ old + n
