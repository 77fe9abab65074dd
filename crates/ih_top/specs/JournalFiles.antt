-- The files that replay and salvage read, an instance, a start and a journal, and what a journal is headed by.
use Rattle.std.specs.Prelude.{ℕ, List, [], unwrap_or, Option, IfSome, ◌≡◌, ◌<◌, ◌^◌, ◌++◌}
use Rattle.ih_top.specs.Below.Wards.{Draft, Heading, JournalRefusal, Timetable}
use Rattle.ih_top.specs.Below.Arguments.{ReplayCall, StartCall}
use Rattle.ih_top.specs.Below.Endings.{Given, HasBytes, HasInputs, Names}
use Rattle.ih_top.specs.Below.Searches.{Base, IsLawful, Options, ended, heading}
use Rattle.ih_inputs.specs.declared.reading.Inputs.{Inputs}
use Rattle.ih_top.specs.Commands.{replay_inputs}
use Rattle.ih_top.specs.Histories.{IsStarted}

-- an instance, the timetable of the start before it is filled, and the bytes of a journal
pub record JournalRead : Type 0 where
  pub instance : Draft
  pub plan : Timetable
  pub bytes : List ℕ

abbrev pub read_from : Inputs → List ℕ → JournalRead
read_from i bytes = record { instance = i.inst.value.draft; plan = i.plan; bytes = bytes }

-- the instance, the timetable of the start and the bytes of a journal that the files give; no bytes without a journal
abbrev pub read_of : Given → JournalRead
read_of g = record { instance = g.instance; plan = g.plan; bytes = unwrap_or g.journal [] }

-- the files give this
pub record HasRead (files : Option Names) (r : ReplayCall) (x : JournalRead) : Type 0 where
  pub inputs : HasInputs files (replay_inputs r) x.instance x.plan
  pub journal : IfSome files (HasBytes r.journal x.bytes)

-- the instance and the start are accepted
pub record HasStartGiven (files : Option Names) (r : ReplayCall) : Type 0 where
  pub instance : Draft
  pub plan : Timetable
  pub inputs : HasInputs files (replay_inputs r) instance plan

-- the journal has the heading of the search's options, and behind it the bytes
pub record IsHeadedBy (s : StartCall) (x : JournalRead) (b : Base) (bytes : List ℕ) : Type 0 where
  pub started : IsStarted s x.instance x.plan b
  pub lawful : IsLawful b.options
  pub seed : b.options.seed < 2 ^ 64
  pub joins : x.bytes ≡ ended (heading b.options) ++ bytes

-- the bytes begin with no heading of lawful options and its line feed
abbrev pub HasNoHeading : List ℕ → Type 0
HasNoHeading bytes =
    (o : Options) (more : List ℕ) → IsLawful o → o.seed < 2 ^ 64 → bytes ≡ ended (heading o) ++ more → ⊥

-- line 1 is no heading
abbrev pub no_heading : JournalRefusal
no_heading = record { line = 1; reason = Heading }

pub record IsHeadless (x : JournalRead) (e : JournalRefusal) : Type 0 where
  pub none : HasNoHeading x.bytes
  pub refusal : e ≡ no_heading
