-- How a call of the program ends: what it then has read, written and said, by its status.
use Rattle.std.specs.Prelude.{◌≡◌, ℕ, ◌+◌, List, Option, Some, None}
use Rattle.ih_commands.specs.Below.Arguments.{MayAskForHelp, MayBeRefused, Text}
use Rattle.ih_commands.specs.Below.Endings.{ArePutsAtMost, CommandEnds, Done, Ends, Given, HasGiven, IfTold, IsOnePutAtMost, Names, OutOfMemory, Status, Unchanged, Usage, WriteFault, is_there, memory_text}
use Rattle.ih_commands.specs.Calls.{Call, IsAnswered, app_for, comes_to, improve, inputs_of}
use Rattle.ih_optimizer.specs.Call.{improve_inputs, reading}
use Rattle.ih_optimizer.specs.Pacing.{most_rounds}
use Rattle.ih_optimizer.specs.Searching.{ImproveEnds}

-- what a call has read and written, and the text that it had to say, by its status
abbrev pub CallEnds : Call → Option Names → Option Names → Status → List ℕ → Type 0
CallEnds (improve c) old new status text = ImproveEnds c old new status text
CallEnds call old new status text = CommandEnds (comes_to call) (inputs_of call) old new status text

-- The words name no call: help is said, where they may ask for that, or why they name none. No clause says these texts.
abbrev pub NoCallEnds : List Text → Status → List ℕ → Type 0
NoCallEnds words Done text = MayAskForHelp (app_for words) words
NoCallEnds words Usage text = MayBeRefused (app_for words) words
-- the help couldn't be put out
NoCallEnds words (WriteFault None) text = MayAskForHelp (app_for words) words
NoCallEnds words OutOfMemory text = text ≡ memory_text
NoCallEnds words status text = ⊥

-- what the files then hold and what is said, by the words and the call that they name
abbrev pub Leaves : List Text → Option Call → (old new : Option Names) → (cause : Status → Type 0)
    → (received part : List ℕ → Type 0) → Status → Type 0
Leaves words None old new cause received part status =
    IfTold Unchanged old new × Ends (NoCallEnds words) cause received part status
Leaves words (Some call) old new cause received part status = Ends (CallEnds call old new) cause received part status

-- A search puts out a text after each round, and one more; any other call puts out one. So many puts are counted at
-- most.
abbrev pub HasFewPuts : Option Call → Option ℕ → Option ℕ → Type 0
HasFewPuts (Some (improve c)) old new = IfTold (ArePutsAtMost (most_rounds c.pace.length c.pace.rounds + 1)) old new
HasFewPuts call old new = IfTold IsOnePutAtMost old new

-- where the words name no call, the shelf is as it was: no file is so much as read
abbrev pub IsUntouched : {X : Type 0} → Option Call → X → X → Type 0
IsUntouched None old new = new ≡ old
IsUntouched (Some call) old new = Unit {0}

-- the files that a call reads are as they ought to be; OUT is one of them only where it is there
abbrev pub HasFiles : Call → Names → Type 0
HasFiles (improve c) files =
    (g : Given) × HasGiven (Some files) (improve_inputs (reading (is_there files c.out) c)) g
HasFiles call files = (g : Given) × HasGiven (Some files) (inputs_of call) g

-- where the words are lawful, the files are accepted and no count rose, there are two to four answers
abbrev pub IsComplete : Option Call → Option Names → Type 0 → Type 0 → Type 0 → Status → Type 0
IsComplete None files read wrote put status = Unit {0}
IsComplete (Some call) None read wrote put status = Unit {0}
IsComplete (Some call) (Some files) read wrote put status =
    HasFiles call files → (read → ⊥) → (wrote → ⊥) → (put → ⊥) → IsAnswered call status
