-- A command's answer, and what its status becomes as its text is put out.
use Rattle.std.specs.Prelude.{◌≡◌, ◌≢◌, ℕ, ◌⊎◌, List, [], Some, None, Result, Ok, Err}
use Rattle.ih_shelf.specs.Outside.{Rose}
use Rattle.ih_shelf.specs.declared.outside.Shelf.{Ghosts as ShelfGhosts}
use Rattle.ih_shelf.specs.declared.outside.Sink.{Ghosts as SinkGhosts}
use Rattle.ih_shelf.specs.declared.outside.WriteError.{WriteError}
use Rattle.ih_shelf.specs.declared.outside.WriteError.TheVariants.{Fault, OutOfMemory as NoMemory}
use Rattle.ih_endings.specs.declared.answer.Answer.{Answer}
use Rattle.ih_endings.specs.declared.status.Status.{Status}
use Rattle.ih_endings.specs.declared.status.Status.TheVariants.{Done, ReadFault, WriteFault, OutOfMemory, Infeasible}
use Rattle.ih_endings.specs.Texts.{memory_text}

-- a status whose text couldn't be put out
abbrev pub unsaid : Status → Status
unsaid Done = WriteFault None
unsaid Infeasible = WriteFault None
unsaid status = status

-- The answer has a status and a text of which this holds; where memory ran out, the text is the one that says so.
abbrev pub Answers : (Status → List ℕ → Type 0) → Answer → Type 0
Answers ends a = ((a.status ≡ OutOfMemory) × ends OutOfMemory memory_text) ⊎ ends a.status a.text.items

-- The sink received the text, or a part where it wanted memory itself; where memory had run out before, it is the text
-- that says so, and of that too it may be a part. An empty text isn't put out.
abbrev pub IsConcluded : Status → List ℕ → (List ℕ → Type 0) → (List ℕ → Type 0) → Status → Type 0
IsConcluded status text received part result =
    ((status ≡ OutOfMemory) × (result ≡ OutOfMemory) × (received memory_text ⊎ part memory_text))
    ⊎ ((status ≢ OutOfMemory) × (result ≡ status) × received text)
    ⊎ ((status ≢ OutOfMemory) × (text ≢ [])
    × (((result ≡ unsaid status) × received text) ⊎ ((result ≡ OutOfMemory) × part text)))

-- the status is that of an unsaid text only where the sink's count of faults rose, and `OutOfMemory` only where that of
-- its lacks did
abbrev pub HasPutCause : Status → ℕ → ℕ → ℕ → ℕ → Status → Type 0
HasPutCause status faults faults' lacks lacks' result =
    (result ≡ status) ⊎ ((result ≡ OutOfMemory) × Rose lacks lacks') ⊎ ((result ≡ unsaid status) × Rose faults faults')

-- after a put, the status is that of an unsaid text, or `OutOfMemory`, only where the sink's count of that rose
abbrev pub HasSinkCause : {X : Type 0} → SinkGhosts X → X → X → Status → Status → Type 0
HasSinkCause sink old new status result =
    HasPutCause status (sink.faults old) (sink.faults new) (sink.lacks old) (sink.lacks new) result

-- a fault of a file is answered only where its count rose; the text isn't put out yet
abbrev pub HasFileCause : ℕ → ℕ → ℕ → ℕ → Status → Type 0
HasFileCause reads reads' writes writes' (ReadFault role) = Rose reads reads'
HasFileCause reads reads' writes writes' (WriteFault (Some role)) = Rose writes writes'
HasFileCause reads reads' writes writes' (WriteFault None) = ⊥
HasFileCause reads reads' writes writes' status = Unit {0}

-- after a call, a fault of a file is answered only where the shelf's count of such faults rose
abbrev pub HasShelfCause : {X : Type 0} → ShelfGhosts X → X → X → Status → Type 0
HasShelfCause shelf old new status =
    HasFileCause (shelf.read_faults old) (shelf.read_faults new) (shelf.write_faults old) (shelf.write_faults new)
    status

-- the answer has this status and a text of which this holds, or memory ran out
abbrev pub IsSaidSo : Status → (List ℕ → Type 0) → Answer → Type 0
IsSaidSo status says a = (a.status ≡ OutOfMemory) ⊎ ((a.status ≡ status) × says a.text.items)

-- the answer has this status and this text, or memory ran out
abbrev pub IsSaid : Status → List ℕ → Answer → Type 0
IsSaid status text a = IsSaidSo status (λ t. t ≡ text) a

-- the answer has this status and the text that was made, or memory ran out as it was made
abbrev pub IsSaidOf : {S E : Type 0} → (S → List ℕ) → Status → Result S E → Answer → Type 0
IsSaidOf view status (Ok text) a = (a.status ≡ status) × (a.text.items ≡ view text)
IsSaidOf view status (Err e) a = a.status ≡ OutOfMemory

-- the answer to a failed write has this status and text, or memory ran out; where the write had none, it says so
abbrev pub IsUnwritten : Status → List ℕ → WriteError → Answer → Type 0
IsUnwritten status text Fault a = IsSaid status text a
IsUnwritten status text NoMemory a = a.status ≡ OutOfMemory
