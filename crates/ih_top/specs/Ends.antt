-- How a call of the program ends: what it then has read, written and said, by its status.
use Rattle.std.specs.Prelude.{◌≡◌, ℕ, ◌⊎◌, List, Option, Some, None}
use Rattle.ih_top.specs.Below.Arguments.{Call, advise, chain, check, demo, gen, replay, rounds, salvage, solve}
use Rattle.ih_top.specs.Below.Endings.{CommandEnds, Done, Ends, Given, HasGiven, IfTold, Infeasible, InputFiles, Names, NoneFound, OutOfMemory, Status, Unchanged, Usage, memory_text}
use Rattle.ih_top.specs.Below.Searches.{Base, Entry, IsFull, lines_from, tries}
use Rattle.ih_top.specs.Commands.{IsAdvised, advise_inputs, check_inputs, solve_inputs, IsChecked, GenEnds}
use Rattle.ih_top.specs.Searches.{SolveEnds, ChainEnds}
use Rattle.ih_top.specs.JournalFiles.{HasRead, JournalRead, IsHeadedBy}
use Rattle.ih_top.specs.JournalUses.{ReplayEnds, SalvageEnds}
use Rattle.ih_top.specs.Rounds.{RoundsEnds}
use Rattle.ih_top.specs.Demo.{DemoEnds}
use Rattle.ih_top.specs.Texts.{usage_text}

-- ---- a call with lawful words

-- What a call has read and written, and the text that it had to say, by its status. A check, an advise and a demo write
-- nothing.
abbrev pub CallEnds : Call → Option Names → Option Names → Status → List ℕ → Type 0
CallEnds (solve s) old new status text = SolveEnds s old new status text
CallEnds (replay r) old new status text = ReplayEnds r old new status text
CallEnds (salvage r) old new status text = SalvageEnds r old new status text
CallEnds (check c) old new status text = CommandEnds IsChecked (check_inputs c) old new status text
CallEnds (chain c) old new status text = ChainEnds c old new status text
CallEnds (rounds r) old new status text = RoundsEnds r old new status text
CallEnds (advise a) old new status text = CommandEnds (IsAdvised a) (advise_inputs a) old new status text
CallEnds (gen g) old new status text = GenEnds g old new status text
CallEnds (demo number) old new status text = IfTold Unchanged old new × DemoEnds number status text

-- ---- any call

-- the words name no call: what is to be said of that, by the status
abbrev pub UsageEnds : Status → List ℕ → Type 0
UsageEnds Usage text = text ≡ usage_text
UsageEnds OutOfMemory text = text ≡ memory_text
UsageEnds status text = ⊥

-- what the files then hold and what is said, by the call that the words name
abbrev pub Leaves : Option Call → (old new : Option Names) → (cause : Status → Type 0)
    → (received part : List ℕ → Type 0) → Status → Type 0
Leaves None old new cause received part status = IfTold Unchanged old new × Ends UsageEnds cause received part status
Leaves (Some call) old new cause received part status = Ends (CallEnds call old new) cause received part status

-- where the words name no call, and in a demo, the shelf is as it was: no file is so much as read
abbrev pub IsUntouched : {X : Type 0} → Option Call → X → X → Type 0
IsUntouched None old new = new ≡ old
IsUntouched (Some (demo number)) old new = new ≡ old
IsUntouched (Some call) old new = Unit {0}

-- the answers of a call that has all that it needs
abbrev pub IsAnswered : Call → Status → Type 0
IsAnswered (check c) status = (status ≡ Done) ⊎ (status ≡ Infeasible) ⊎ (status ≡ OutOfMemory)
IsAnswered (advise a) status = (status ≡ Done) ⊎ (status ≡ OutOfMemory)
IsAnswered (gen g) status = (status ≡ Done) ⊎ (status ≡ OutOfMemory)
IsAnswered call status = (status ≡ Done) ⊎ (status ≡ NoneFound) ⊎ (status ≡ OutOfMemory)

-- files are named so, and all of them are accepted
abbrev pub AreGiven : InputFiles → Names → Type 0
AreGiven r files = (g : Given) × HasGiven (Some files) r g

-- The files that a call reads are as they ought to be: the journal of replay is that of a full history, and that of
-- salvage has its heading. A gen and a demo read none.
abbrev pub HasFiles : Call → Names → Type 0
HasFiles (solve s) files = AreGiven (solve_inputs s) files
HasFiles (replay r) files = (x : JournalRead) × (b : Base) × (H : List Entry) × HasRead (Some files) r x
    × IsHeadedBy r.start x b (lines_from b.options 0 H) × IsFull b 1 (tries H)
HasFiles (salvage r) files =
    (x : JournalRead) × (b : Base) × (bytes : List ℕ) × HasRead (Some files) r x × IsHeadedBy r.start x b bytes
HasFiles (check c) files = AreGiven (check_inputs c) files
HasFiles (chain c) files = AreGiven (solve_inputs c.search) files
HasFiles (rounds r) files = AreGiven (solve_inputs r.search) files
HasFiles (advise a) files = AreGiven (advise_inputs a) files
HasFiles call files = Unit {0}

-- Where the words are lawful, the files are accepted and no count rose, there are two or three answers.
abbrev pub IsComplete : Option Call → Option Names → Type 0 → Type 0 → Type 0 → Status → Type 0
IsComplete None files read wrote put status = Unit {0}
IsComplete (Some call) None read wrote put status = Unit {0}
IsComplete (Some call) (Some files) read wrote put status =
    HasFiles call files → (read → ⊥) → (wrote → ⊥) → (put → ⊥) → IsAnswered call status
