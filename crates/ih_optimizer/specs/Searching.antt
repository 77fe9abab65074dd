-- What a call of improve searches, and how it ends.
use Rattle.std.specs.Prelude.{◌≢◌, [], ◌≡◌, ◌⊎◌, ℕ, Bool, true, false, if◌then◌else◌, List, Option, Some, None, IfSome}
use Rattle.ih_optimizer.specs.Below.Wards.{Draft, IsPlanOf, Timetable, bill_of, feasible}
use Rattle.ih_optimizer.specs.Below.Arguments.{Text}
use Rattle.ih_optimizer.specs.Below.Endings.{BegunEnds, Done, HasInputs, HasOlder, IfTold, Names, NoneFound, OutOfMemory, StartRefused, Status, Unchanged, is_there}
use Rattle.ih_optimizer.specs.Below.Searches.{AreSettingsOf, HasGap, HoldsOfAll, ImproverState, IsNoDearer, Leaves, Outcome, PinsState, Settings, fill, is_better, of_bill, pins_of}
use Rattle.ih_optimizer.specs.Call.{ImproveCall, improve_inputs, older_of, reading}
use Rattle.ih_optimizer.specs.Pacing.{IsLawfulPace, most_rounds}
use Rattle.ih_optimizer.specs.Pinning.{first_unknown, unknown_patient, unknown_text}
use Rattle.ih_optimizer.specs.Rounds.{IsRound, IsSearched, SearchTask}

-- ---- what is searched

-- a search before its first round
abbrev pub new_search : Draft → Timetable → PinsState → Settings → ImproverState
new_search I start pins s =
    record { instance = I; start = start; pins = pins; settings = s; rounds = 0; attempts = 0; kept = start }

-- the fill of a timetable where that is better, else the timetable
abbrev pub cheaper_fill : ℕ → Draft → Timetable → Timetable
cheaper_fill hard I P =
    if is_better hard 0 I.weights (of_bill (bill_of I (fill I hard P))) (of_bill (bill_of I P))
    then fill I hard P else P

-- What a search starts from: the timetable that is given, or, where that is asked for, its fill. Of a feasible one it is
-- the fill only where that is better.
abbrev pub begun : Bool → ℕ → Draft → Timetable → Timetable
begun false hard I P = P
begun true hard I P = if feasible (bill_of I P) then cheaper_fill hard I P else fill I hard P

-- what a call goes by in each round, where OUT has a timetable that may stay, or none, and this is told of all
abbrev pub task_of : ImproveCall → Option Timetable → Option Outcome → SearchTask
task_of c held bound = record { out = c.out; held = held; draft = c.draft; bound = bound; pace = c.pace }

-- What is told of all feasible timetables, where that is asked for: something that holds of them. So each share that is
-- told of one is true.
abbrev pub IsLimit : Bool → Draft → Option Outcome → Type 0
IsLimit asked I None = asked ≡ false
IsLimit asked I (Some o) = (asked ≡ true) × HoldsOfAll I o × ((P : Timetable) → IsPlanOf I P → HasGap I P o)

-- before its first round, the search of a call from an instance and a timetable: it starts from that, or from the fill
-- of it, and never from a dearer one than a feasible one that is given. Each id that is pinned is a patient's. Where no
-- number of workers is given, there are as many as processors.
pub record IsSearchFrom (I : Draft) (given : Timetable) (c : ImproveCall) (v : ImproverState) : Type 0 where
  pub pace : IsLawfulPace c.pace
  pub processors : ℕ
  pub settings : AreSettingsOf I c.settings processors v.settings
  pub start : v.start ≡ begun c.start.fill v.settings.hard I given
  pub no_dearer : IsNoDearer I given v.start
  pub named : first_unknown I c.pins ≡ None
  pub is_new : v ≡ new_search I v.start (pins_of I c.pins c.pin_nurses) v.settings

-- a call's search over what the files give: what may stay is what OUT has, and `bound` is what is said of all
-- feasible timetables
pub record IsSearch (files : Option Names) (c : ImproveCall) (held : Option Timetable) (bound : Option Outcome)
    (v : ImproverState) : Type 0 where
  pub given : Timetable
  pub inputs : HasInputs files (improve_inputs c) v.instance given
  pub older : HasOlder files (older_of c) v.instance held
  pub limit : IsLimit c.is_bounded v.instance bound
  pub from : IsSearchFrom v.instance given c v

-- ---- how it ends

-- a call pins an id that no patient of its instance has, and that is said
pub record PinsNobody (files : Option Names) (c : ImproveCall) (status : Status) (text : List ℕ) : Type 0 where
  pub instance : Draft
  pub given : Timetable
  pub inputs : HasInputs files (improve_inputs c) instance given
  pub id : Text
  pub unknown : first_unknown instance c.pins ≡ Some id
  pub refused : status ≡ StartRefused unknown_patient
  pub said : text ≡ unknown_text id

-- How a call ends that knows which files it reads: before its search, as it pins nobody, its files aren't as they ought to
-- be or memory ran out; or it is that of the files and the words, and goes on from round to round.
pub record SearchEnds (c : ImproveCall) (old new : Option Names) (status : Status) (text : List ℕ) : Type 0 where
  -- what OUT has that may stay
  pub held : Option Timetable
  -- what is told of all feasible timetables
  pub bound : Option Outcome
  pub ends :
      (IfTold Unchanged old new × PinsNobody old c status text)
      ⊎ BegunEnds (IsSearch old c held bound) (IsRound Leaves (task_of c held bound)) (IsSearched (task_of c held bound))
      (most_rounds c.pace.length c.pace.rounds) (improve_inputs c) old new status text

-- How a call of improve ends: OUT is read only where it is there.
pub record ImproveEnds (c : ImproveCall) (old new : Option Names) (status : Status) (text : List ℕ) : Type 0 where
  pub found : Bool
  pub there : IfSome old (λ files. found ≡ is_there files c.out)
  pub ends : SearchEnds (reading found c) old new status text

-- the answers of a call that has all that it needs
abbrev pub IsImproveAnswered : ImproveCall → Status → Type 0
IsImproveAnswered c status =
    (status ≡ Done) ⊎ (status ≡ NoneFound) ⊎ (status ≡ OutOfMemory)
    ⊎ ((c.pins ≢ []) × (status ≡ StartRefused unknown_patient))
