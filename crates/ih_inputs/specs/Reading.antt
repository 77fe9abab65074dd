-- The files that a call reads: an instance, and where files are named for them a timetable, an older one, a journal and the
-- instance that comes next.
use Rattle.std.specs.Prelude.{◌≡◌, ℕ, ◌≤◌, ◌<◌, Bool, false, true, List, [], length, option_map, unwrap_or, Option, Some, None, Result, Ok, Err, IfSome}
use Rattle.ih_tables.specs.declared.drafts.Draft.{Draft}
use Rattle.ih_tables.specs.declared.refusals.Refusal.{Refusal}
use Rattle.ih_plan.specs.Timetable.{IsPlanOf, Timetable, empty}
use Rattle.ih_instance.specs.Instance.{instance}
use Rattle.ih_solution.specs.Reading.{plan_in}
use Rattle.ih_shelf.specs.Outside.{Names, bytes_at}
use Rattle.ih_shelf.specs.declared.outside.Shelf.{Ghosts as ShelfGhosts}
use Rattle.ih_inputs.specs.Errors.{HasFailed, instance_refused_as, refused_as}
use Rattle.ih_inputs.specs.declared.reading.InputNames.{InputNames}
use Rattle.ih_inputs.specs.declared.reading.Inputs.{Inputs}
use Rattle.ih_inputs.specs.declared.reading.TheConstants.{MAX_FILE, MAX_JOURNAL}
use Rattle.ih_inputs.specs.declared.error.InputError.{InputError}
use Rattle.ih_inputs.specs.declared.error.Refused.{Refused}
use Rattle.ih_inputs.specs.declared.error.InputError.TheVariants.{ReadFault, InstanceRefused, NextRefused, OlderRefused, SolutionRefused, OutOfMemory, TooLong}
use Rattle.ih_inputs.specs.declared.error.InputRole.{InputRole}
use Rattle.ih_inputs.specs.declared.error.InputRole.TheVariants.{Instance, Journal, Next, Older, Solution}

-- the names of these files
pub record InputFiles : Type 0 where
  pub instance : List ℕ
  pub solution : Option (List ℕ)
  pub older : Option (List ℕ)
  pub journal : Option (List ℕ)
  pub next : Option (List ℕ)
  -- what is said of a refused file begins with its name
  pub are_said : Bool

abbrev pub files_of : InputNames → InputFiles
files_of n = record {
  instance = n.instance.now;
  solution = option_map (λ t. t.now) n.solution;
  older = option_map (λ t. t.now) n.older;
  journal = option_map (λ t. t.now) n.journal;
  next = option_map (λ t. t.now) n.next;
  are_said = n.are_said;
}

-- an instance, and a timetable where a file is named for it
abbrev pub two_files : List ℕ → Option (List ℕ) → InputFiles
two_files instance solution =
    record { instance = instance; solution = solution; older = None; journal = None; next = None; are_said = false }

-- an instance, and a timetable where a file is named for it; what is said of a refused one begins with its name
abbrev pub said_files : List ℕ → Option (List ℕ) → InputFiles
said_files instance solution = record (two_files instance solution) { are_said = true }

-- the name of the file with this role, where it has one
abbrev pub name_in : InputFiles → InputRole → List ℕ
name_in r Instance = r.instance
name_in r Solution = unwrap_or r.solution []
name_in r Older = unwrap_or r.older []
name_in r Journal = unwrap_or r.journal []
name_in r Next = unwrap_or r.next []

-- what such files give
pub record Given : Type 0 where
  pub instance : Draft
  pub plan : Timetable
  pub older : Option Timetable
  pub journal : Option (List ℕ)
  pub next : Option Draft

abbrev pub given_of : Inputs → Given
given_of i = record {
  instance = i.inst.value.draft;
  plan = i.plan;
  older = i.older;
  journal = option_map (λ v. v.items) i.journal;
  next = option_map (λ i. i.value.draft) i.next;
}

-- its timetables are of its instance
pub record ArePlans (i : Inputs) : Type 0 where
  pub plan : IsPlanOf i.inst.value.draft i.plan
  pub older : IfSome i.older (IsPlanOf i.inst.value.draft)

-- ---- where a shelf tells what it holds

-- the file has more bytes than so many
abbrev pub IsLongerThan : ℕ → List ℕ → Names → Type 0
IsLongerThan limit name files = limit < length (bytes_at files name)

-- the file of an instance or of a timetable has more bytes than it may
abbrev pub IsLong : List ℕ → Names → Type 0
IsLong name files = IsLongerThan MAX_FILE name files

-- the file is within its limit, and its bytes are read as this
pub record IsReadAs {A : Type 0} (read_by : List ℕ → A) (name : List ℕ) (value : A) (files : Names) : Type 0 where
  pub short : length (bytes_at files name) ≤ MAX_FILE
  pub read : read_by (bytes_at files name) ≡ value

-- it is an instance with this data
abbrev pub HasInstance : List ℕ → Draft → Names → Type 0
HasInstance name I files = IsReadAs instance name (Ok I) files

-- it gives this timetable
abbrev pub HasSolution : List ℕ → Draft → Timetable → Names → Type 0
HasSolution name I P files = IsReadAs (plan_in I) name (Ok P) files

-- the file is within its limit, and refused for this reason; these are its bytes
pub record IsRefusedBy {A : Type 0} (read_by : List ℕ → Result A Refusal) (name : List ℕ) (x : Refused) (files : Names)
    : Type 0 where
  pub short : length (bytes_at files name) ≤ MAX_FILE
  pub read : read_by (bytes_at files name) ≡ Err x.refusal
  pub held : bytes_at files name ≡ x.bytes.items

-- it is no instance, for this reason
abbrev pub IsInstanceRefused : List ℕ → Refused → Names → Type 0
IsInstanceRefused name x files = IsRefusedBy instance name x files

-- it gives no timetable, for this reason
abbrev pub IsSolutionRefused : List ℕ → Draft → Refused → Names → Type 0
IsSolutionRefused name I x files = IsRefusedBy (plan_in I) name x files

-- the file is within the limit of a journal, and has these bytes
pub record HasBytes (name bytes : List ℕ) (files : Names) : Type 0 where
  pub short : length bytes ≤ MAX_JOURNAL
  pub held : bytes_at files name ≡ bytes

-- ---- what a shelf gives, as far as it tells

-- the timetable of the file that is named for it; where none is, nobody is admitted and there are no nurses
abbrev pub HasPlan : Option Names → Option (List ℕ) → Draft → Timetable → Type 0
HasPlan files None I P = P ≡ empty I
HasPlan files (Some name) I P = IfSome files (HasSolution name I P)

-- what the files of the instance and of the timetable give
pub record HasInputs (files : Option Names) (r : InputFiles) (I : Draft) (P : Timetable) : Type 0 where
  pub instance : IfSome files (HasInstance r.instance I)
  pub plan : HasPlan files r.solution I P

-- the timetable of the older solution's file, where one is named
abbrev pub HasOlder : Option Names → Option (List ℕ) → Draft → Option Timetable → Type 0
HasOlder files None I older = older ≡ None
HasOlder files (Some name) I None = ⊥
HasOlder files (Some name) I (Some O) = IfSome files (HasSolution name I O)

-- the bytes of the journal, where one is named
abbrev pub HasJournal : Option Names → Option (List ℕ) → Option (List ℕ) → Type 0
HasJournal files None journal = journal ≡ None
HasJournal files (Some name) None = ⊥
HasJournal files (Some name) (Some bytes) = IfSome files (HasBytes name bytes)

-- the instance that comes next, where one is named
abbrev pub HasNext : Option Names → Option (List ℕ) → Option Draft → Type 0
HasNext files None next = next ≡ None
HasNext files (Some name) None = ⊥
HasNext files (Some name) (Some N) = IfSome files (HasInstance name N)

-- what the files give that are read before the instance that comes next
pub record HasGivenBefore (files : Option Names) (r : InputFiles) (g : Given) : Type 0 where
  pub inputs : HasInputs files r g.instance g.plan
  pub older : HasOlder files r.older g.instance g.older
  pub journal : HasJournal files r.journal g.journal

-- what all files of a call give
pub record HasGiven (files : Option Names) (r : InputFiles) (g : Given) : Type 0 where
  pub inputs : HasInputs files r g.instance g.plan
  pub older : HasOlder files r.older g.instance g.older
  pub journal : HasJournal files r.journal g.journal
  pub next : HasNext files r.next g.next

-- ---- why the files can't be had

-- the instance is accepted, and a file for the timetable is named
pub record IsNext (files : Option Names) (r : InputFiles) (I : Draft) (name : List ℕ) : Type 0 where
  pub instance : IfSome files (HasInstance r.instance I)
  pub named : r.solution ≡ Some name

-- the instance and the timetable are accepted, and a file for an older one is named
pub record IsOlderNext (files : Option Names) (r : InputFiles) (I : Draft) (name : List ℕ) : Type 0 where
  pub plan : Timetable
  pub inputs : HasInputs files r I plan
  pub named : r.older ≡ Some name

-- the instance and the timetables are accepted, and a journal is named
pub record IsJournalNext (files : Option Names) (r : InputFiles) (name : List ℕ) : Type 0 where
  pub instance : Draft
  pub plan : Timetable
  pub older : Option Timetable
  pub inputs : HasInputs files r instance plan
  pub older_is : HasOlder files r.older instance older
  pub named : r.journal ≡ Some name

-- all others are accepted, and an instance that comes next is named
pub record IsLastNext (files : Option Names) (r : InputFiles) (name : List ℕ) : Type 0 where
  pub given : Given
  pub before : HasGivenBefore files r given
  pub named : r.next ≡ Some name

-- Why an instance's file gives none: first its length counts, then its form.
abbrev pub IsNoInstance : InputRole → Option Names → List ℕ → InputError → Type 0
IsNoInstance role files name (ReadFault of) = of ≡ role
IsNoInstance role files name (TooLong of) = (of ≡ role) × IfSome files (IsLong name)
IsNoInstance role files name OutOfMemory = Unit {0}
IsNoInstance role files name error =
    (x : Refused) × (error ≡ instance_refused_as role x) × IfSome files (IsInstanceRefused name x)

-- Why a solution's file gives no timetable of the instance: first its length counts, then its form.
abbrev pub IsNoPlan : InputRole → Option Names → List ℕ → Draft → InputError → Type 0
IsNoPlan role files name I (ReadFault of) = of ≡ role
IsNoPlan role files name I (TooLong of) = (of ≡ role) × IfSome files (IsLong name)
IsNoPlan role files name I OutOfMemory = Unit {0}
IsNoPlan role files name I error =
    (x : Refused) × (error ≡ refused_as role x) × IfSome files (IsSolutionRefused name I x)

-- Why the files can't be had. The instance comes first, then the timetable, the older one, the journal and the instance that
-- comes next; of each file first its length, then its form.
abbrev pub IsUnread : Option Names → InputFiles → InputError → Type 0
IsUnread files r (ReadFault Instance) = Unit {0}
IsUnread files r (TooLong Instance) = IfSome files (IsLong r.instance)
IsUnread files r (InstanceRefused x) = IfSome files (IsInstanceRefused r.instance x)
IsUnread files r (ReadFault Solution) = (I : Draft) × (name : List ℕ) × IsNext files r I name
IsUnread files r (TooLong Solution) =
    (I : Draft) × (name : List ℕ) × IsNext files r I name × IfSome files (IsLong name)
IsUnread files r (SolutionRefused x) =
    (I : Draft) × (name : List ℕ) × IsNext files r I name × IfSome files (IsSolutionRefused name I x)
IsUnread files r (ReadFault Older) = (I : Draft) × (name : List ℕ) × IsOlderNext files r I name
IsUnread files r (TooLong Older) =
    (I : Draft) × (name : List ℕ) × IsOlderNext files r I name × IfSome files (IsLong name)
IsUnread files r (OlderRefused x) =
    (I : Draft) × (name : List ℕ) × IsOlderNext files r I name × IfSome files (IsSolutionRefused name I x)
IsUnread files r (ReadFault Journal) = (name : List ℕ) × IsJournalNext files r name
IsUnread files r (TooLong Journal) =
    (name : List ℕ) × IsJournalNext files r name × IfSome files (IsLongerThan MAX_JOURNAL name)
IsUnread files r (ReadFault Next) = (name : List ℕ) × IsLastNext files r name
IsUnread files r (TooLong Next) = (name : List ℕ) × IsLastNext files r name × IfSome files (IsLong name)
IsUnread files r (NextRefused x) = (name : List ℕ) × IsLastNext files r name × IfSome files (IsInstanceRefused name x)
IsUnread files r OutOfMemory = Unit {0}

-- a fault is answered only where a read of the file with that role failed
abbrev pub HasReadCause : {X : Type 0} → ShelfGhosts X → InputFiles → X → X → InputError → Type 0
HasReadCause shelf r old new (ReadFault role) = HasFailed shelf (name_in r role) old new
HasReadCause shelf r old new error = Unit {0}
