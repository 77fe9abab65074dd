-- How any call ends: what the files then hold, what the sink received, and why a fault is answered.
use Rattle.std.specs.Prelude.{◌≡◌, ℕ, ◌⊎◌, List, Option, Some, None}
use Rattle.ih_shelf.specs.Outside.{IsAppended, MayBeAppended, Names, Rose, IfTold}
use Rattle.ih_shelf.specs.declared.outside.Shelf.{Ghosts as ShelfGhosts}
use Rattle.ih_shelf.specs.declared.outside.Sink.{Ghosts as SinkGhosts}
use Rattle.ih_endings.specs.declared.status.Status.{Status}
use Rattle.ih_endings.specs.declared.status.Status.TheVariants.{ReadFault, WriteFault, OutOfMemory}
use Rattle.ih_endings.specs.Answers.{HasShelfCause, unsaid}
use Rattle.ih_endings.specs.Texts.{ReceivedPart}

-- each name has what it had
abbrev pub Unchanged : Names → Names → Type 0
Unchanged old new = (n : List ℕ) → new n ≡ old n

-- The sink received the text whole; or a prefix of it, where its count of faults rose and the status isn't one that
-- asks for the whole.
abbrev pub Received : Status → Option (List ℕ) → Option (List ℕ) → ℕ → ℕ → List ℕ → Type 0
Received status old new before now text =
    IfTold (IsAppended text) old new
    ⊎ ((unsaid status ≡ status) × Rose before now × IfTold (MayBeAppended text) old new)

-- At each status the sink received the text that the call had to say there. The second case of `OutOfMemory` is the
-- sink's own lack: it wanted memory, and received a part of the text of a status that the call had reached, with a
-- cause for that one.
abbrev pub Ends : (ends : Status → List ℕ → Type 0) → (cause : Status → Type 0) → (received part : List ℕ → Type 0)
    → Status → Type 0
Ends ends cause received part OutOfMemory =
    ((text : List ℕ) × ends OutOfMemory text × received text)
    ⊎ ((status : Status) × (text : List ℕ) × ends status text × cause status × part text)
Ends ends cause received part status = (text : List ℕ) × ends status text × received text

-- the sink received a text, or a part of it, by what it has and counts
abbrev pub HasReceived : {X : Type 0} → SinkGhosts X → X → X → Status → List ℕ → Type 0
HasReceived sink old new status text =
    Received status (sink.text old) (sink.text new) (sink.faults old) (sink.faults new) text

abbrev pub HasReceivedPart : {X : Type 0} → SinkGhosts X → X → X → List ℕ → Type 0
HasReceivedPart sink old new text =
    ReceivedPart (sink.text old) (sink.text new) (sink.lacks old) (sink.lacks new) text

-- how a call ends over a shelf and a sink
abbrev pub EndsOver : {X Y : Type 0} → ShelfGhosts X → SinkGhosts Y → X → X → Y → Y
    → (ends : Option Names → Option Names → Status → List ℕ → Type 0) → Status → Type 0
EndsOver shelf sink files files' out out' ends status =
    Ends (ends (shelf.names files) (shelf.names files')) (HasShelfCause shelf files files')
    (HasReceived sink out out' status) (HasReceivedPart sink out out') status

-- A fault is answered only where its count rose in the call, or stands at the last number of 64 bits.
abbrev pub HasCause : ℕ → ℕ → ℕ → ℕ → ℕ → ℕ → Status → Type 0
HasCause reads reads' writes writes' puts puts' (ReadFault role) = Rose reads reads'
HasCause reads reads' writes writes' puts puts' (WriteFault (Some role)) = Rose writes writes'
HasCause reads reads' writes writes' puts puts' (WriteFault None) = Rose puts puts'
HasCause reads reads' writes writes' puts puts' status = Unit {0}

-- the same over a shelf and a sink
abbrev pub HasCauseOver : {X Y : Type 0} → ShelfGhosts X → SinkGhosts Y → X → X → Y → Y → Status → Type 0
HasCauseOver shelf sink files files' out out' status =
    HasCause (shelf.read_faults files) (shelf.read_faults files') (shelf.write_faults files) (shelf.write_faults files')
    (sink.faults out) (sink.faults out') status
