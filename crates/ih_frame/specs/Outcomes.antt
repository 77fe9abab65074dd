-- What a command comes to, and what is left of that: which files are written, what is said and with which status.
use Rattle.std.specs.Prelude.{◌≡◌, ◌≢◌, ℕ, ◌⊎◌, List, [], ◌∷◌, map, Option, Some}
use Rattle.ih_shelf.specs.Outside.{IfTold, IsWritten, MayBeWritten, Names}
use Rattle.ih_endings.specs.declared.status.Role.{Role}
use Rattle.ih_endings.specs.declared.status.Status.{Status}
use Rattle.ih_endings.specs.declared.status.Status.TheVariants.{Done, ReadFault, WriteFault, OutOfMemory}
use Rattle.ih_endings.specs.Answers.{unsaid}
use Rattle.ih_endings.specs.Ends.{Unchanged}
use Rattle.ih_endings.specs.Texts.{memory_text, unwritten_text}
use Rattle.ih_frame.specs.declared.outcome.Outcome.{Outcome}
use Rattle.ih_frame.specs.declared.outcome.Writing.{Writing}

-- a file that is to be written
pub record WritingState : Type 0 where
  pub role : Role
  pub name : List ℕ
  pub bytes : List ℕ

-- files that are to be written, in this order; what is said once they are; and how the call then ends
pub record OutcomeState : Type 0 where
  pub writes : List WritingState
  pub text : List ℕ
  pub status : Status

abbrev pub writing_of : Writing → WritingState
writing_of w = record { role = w.role; name = w.name.now; bytes = w.bytes.items }

abbrev pub outcome_of : Outcome → OutcomeState
outcome_of o = record { writes = map writing_of o.writes.items; text = o.text.items; status = o.status }

-- nothing is written
abbrev pub says : Status → List ℕ → OutcomeState
says status text = record { writes = []; text = text; status = status }

-- one file is written, and then a text is said
abbrev pub writes_one : Role → (name bytes text : List ℕ) → OutcomeState
writes_one role name bytes text =
    record { writes = record { role = role; name = name; bytes = bytes } ∷ []; text = text; status = Done }

-- a status with which a command may end by itself: faults of files and lack of memory are not its own
abbrev pub IsOwnStatus : Status → Type 0
IsOwnStatus (ReadFault role) = ⊥
IsOwnStatus (WriteFault role) = ⊥
IsOwnStatus OutOfMemory = ⊥
IsOwnStatus status = Unit {0}

-- ---- what the files then hold

-- the files are written, one after the other
abbrev pub AreWritten : List WritingState → Names → Names → Type 0
AreWritten [] old new = Unchanged old new
AreWritten (w ∷ later) old new = (mid : Names) × IsWritten w.name w.bytes old mid × AreWritten later mid new

-- the write of this file may have stopped anywhere: those before it are written, and none behind it is begun
abbrev pub StopsAt : WritingState → List WritingState → Names → Names → Type 0
StopsAt w [] old new = ⊥
StopsAt w (first ∷ later) old new =
    ((w ≡ first) × MayBeWritten w.name w.bytes old new)
    ⊎ ((mid : Names) × IsWritten first.name first.bytes old mid × StopsAt w later mid new)

-- the file is one of these
abbrev pub IsOneOf : WritingState → List WritingState → Type 0
IsOneOf w [] = ⊥
IsOneOf w (first ∷ later) = (w ≡ first) ⊎ IsOneOf w later

-- all are written, or the write of one may have stopped anywhere
abbrev pub AreBegun : List WritingState → Names → Names → Type 0
AreBegun writes old new = AreWritten writes old new ⊎ ((w : WritingState) × StopsAt w writes old new)

-- ---- how the call then ends

-- how a call ends that can't write all its files: which one it is, or that memory ran out
abbrev pub IsStopped : List WritingState → Option Names → Option Names → Status → List ℕ → Type 0
IsStopped writes old new (WriteFault (Some role)) text =
    (w : WritingState) × IsOneOf w writes × (w.role ≡ role) × IfTold (StopsAt w writes) old new
    × (text ≡ unwritten_text w.name)
IsStopped writes old new OutOfMemory text = IfTold (AreBegun writes) old new × (text ≡ memory_text)
IsStopped writes old new status text = ⊥

-- the status is the outcome's, or says that its text couldn't be put out
abbrev pub IsStatusOf : OutcomeState → Status → Type 0
IsStatusOf o status = (status ≡ o.status) ⊎ ((o.text ≢ []) × (status ≡ unsaid o.status))

-- all files of the outcome are written, and its text is what there is to say
abbrev pub IsWhole : OutcomeState → Option Names → Option Names → Status → List ℕ → Type 0
IsWhole o old new status text = IfTold (AreWritten o.writes) old new × IsStatusOf o status × (text ≡ o.text)

-- what a call leaves that came to this outcome: all of it, or what it is stopped at
abbrev pub IsLeft : OutcomeState → Option Names → Option Names → Status → List ℕ → Type 0
IsLeft o old new status text = IsWhole o old new status text ⊎ IsStopped o.writes old new status text
