-- How a call ends that comes no further than the files that it reads before anything else.
use Rattle.std.specs.Prelude.{◌≡◌, ℕ, Bool, true, false, List, ◌++◌, Option, codes}
use Rattle.ih_shelf.specs.Outside.{Names}
use Rattle.ih_shelf.specs.declared.outside.Shelf.{Ghosts as ShelfGhosts}
use Rattle.ih_inputs.specs.Errors.{HasFailed}
use Rattle.ih_inputs.specs.Reading.{InputFiles, IsUnread, name_in}
use Rattle.ih_inputs.specs.declared.error.InputRole.{InputRole}
use Rattle.ih_inputs.specs.declared.error.InputRole.TheVariants.{Instance as InstanceInput, Journal as JournalInput, Next as NextInput, Older as OlderInput, Solution as SolutionInput}
use Rattle.ih_inputs.specs.declared.error.InputError.{InputError}
use Rattle.ih_inputs.specs.declared.error.InputError.TheVariants.{ReadFault as Unreadable, TooLong as Long, InstanceRefused as NoInstance, NextRefused as NoNext, OlderRefused as NoOlder, SolutionRefused as NoSolution, OutOfMemory as NoRoom}
use Rattle.ih_inputs.specs.declared.error.Refused.{Refused}
use Rattle.ih_remedies.specs.Remedies.{IsRemedy}
use Rattle.ih_endings.specs.declared.answer.Answer.{Answer}
use Rattle.ih_endings.specs.declared.status.Role.{Role}
use Rattle.ih_endings.specs.declared.status.Role.TheVariants.{Instance, Journal, Solution}
use Rattle.ih_endings.specs.declared.status.Status.{Status}
use Rattle.ih_endings.specs.declared.status.Status.TheVariants.{ReadFault, InstanceRefused, StartRefused, OutOfMemory, TooLong}
use Rattle.ih_endings.specs.Answers.{IsSaidSo}
use Rattle.ih_endings.specs.Texts.{memory_text, refused_text, too_long_text, unread_text}

abbrev pub role_in : InputRole → Role
role_in InstanceInput = Instance
role_in SolutionInput = Solution
role_in OlderInput = Solution
role_in JournalInput = Journal
role_in NextInput = Instance

-- the status of a call whose files can't be had
abbrev pub unread_status : InputError → Status
unread_status (Unreadable role) = ReadFault (role_in role)
unread_status (Long role) = TooLong (role_in role)
unread_status (NoInstance x) = InstanceRefused x.refusal
unread_status (NoSolution x) = StartRefused x.refusal
unread_status (NoOlder x) = StartRefused x.refusal
unread_status (NoNext x) = InstanceRefused x.refusal
unread_status NoRoom = OutOfMemory

-- a refused file's line behind the file's name, and what helps to mend the file
abbrev pub SaysRemedy : (name line : List ℕ) → Refused → List ℕ → Type 0
SaysRemedy name line x text =
    (remedy : List ℕ) × IsRemedy x.bytes.items x.refusal remedy × (text ≡ name ++ codes ": " ++ line ++ remedy)

-- what is said of a refused file: its line; where names are said, also its name and what helps to mend it
abbrev pub SaysLine : Bool → (name line : List ℕ) → Refused → List ℕ → Type 0
SaysLine true name line x text = SaysRemedy name line x text
SaysLine false name line x text = text ≡ line

abbrev pub SaysRefused : InputFiles → InputRole → (what : List ℕ) → Refused → List ℕ → Type 0
SaysRefused r role what x text = SaysLine r.are_said (name_in r role) (refused_text what x.refusal) x text

-- what such a call says
abbrev pub SaysUnread : InputFiles → InputError → List ℕ → Type 0
SaysUnread r (Unreadable role) text = text ≡ unread_text (name_in r role)
SaysUnread r (Long role) text = text ≡ too_long_text (name_in r role)
SaysUnread r (NoInstance x) text = SaysRefused r InstanceInput (codes "instance") x text
SaysUnread r (NoSolution x) text = SaysRefused r SolutionInput (codes "solution") x text
SaysUnread r (NoOlder x) text = SaysRefused r OlderInput (codes "older solution") x text
SaysUnread r (NoNext x) text = SaysRefused r NextInput (codes "new instance") x text
SaysUnread r NoRoom text = text ≡ memory_text

-- the files can't be had: the status and the text say why
abbrev pub EndsUnread : Option Names → InputFiles → Status → List ℕ → Type 0
EndsUnread files r status text =
    (e : InputError) × (status ≡ unread_status e) × SaysUnread r e text × IsUnread files r e

-- the answer says so, or memory ran out
abbrev pub IsUnreadInputs : InputFiles → InputError → Answer → Type 0
IsUnreadInputs r e a = IsSaidSo (unread_status e) (SaysUnread r e) a

-- the text names a file that can't be read only where a read of that file failed
abbrev pub HasFailedRead : {X : Type 0} → ShelfGhosts X → X → X → Status → List ℕ → Type 0
HasFailedRead shelf old new (ReadFault role) text =
    (name : List ℕ) × (text ≡ unread_text name) × HasFailed shelf name old new
HasFailedRead shelf old new status text = Unit {0}
