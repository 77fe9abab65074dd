-- How a call ends that takes a history from a journal: what it then has read and written, and what it had to say, by
-- its status.
use Rattle.std.specs.Prelude.{◌≡◌, ℕ, ◌⊎◌, List, Option, Some, None}
use Rattle.ih_top.specs.Below.Wards.{JournalRefusal}
use Rattle.ih_top.specs.Below.Arguments.{ReplayCall}
use Rattle.ih_top.specs.Below.Endings.{Done, EndsUnread, IfTold, IsWritten, JournalRefused, MayBeWritten, Names, NoneFound, Out, OutOfMemory, Status, Unchanged, WriteFault, memory_text, none_found_text, unwritten_text}
use Rattle.ih_top.specs.Below.Searches.{Base, Entry, HasNone, IsBest, Tried, tries}
use Rattle.ih_top.specs.Searches.{solution_at}
use Rattle.ih_top.specs.Texts.{journal_refused_text}
use Rattle.ih_top.specs.Commands.{replay_inputs}
use Rattle.ih_top.specs.JournalFiles.{JournalRead, HasRead}

-- A history was taken from the journal, and the solution of its first cheapest feasible timetable is written as far as
-- `writes` says.
pub record HasBest (taken : JournalRead → Base → List Entry → Type 0)
    (writes : List ℕ → List ℕ → Names → Names → Type 0) (r : ReplayCall) (old new : Option Names) : Type 0 where
  pub read : JournalRead
  pub base : Base
  pub history : List Entry
  pub place : ℕ
  pub given : HasRead old r read
  pub taken_is : taken read base history
  pub best : IsBest base (tries history) place
  pub written : IfTold (writes r.out (solution_at base (tries history) place)) old new

-- A history was taken from the journal, and no timetable of it is feasible.
pub record HasNoBest (taken : JournalRead → Base → List Entry → Type 0) (r : ReplayCall)
    (files : Option Names) : Type 0 where
  pub read : JournalRead
  pub base : Base
  pub history : List Entry
  pub given : HasRead files r read
  pub taken_is : taken read base history
  pub none : HasNone base (tries history)

-- the journal was refused
pub record IsRefused (refused : JournalRead → JournalRefusal → Type 0) (r : ReplayCall) (files : Option Names)
    (e : JournalRefusal) : Type 0 where
  pub read : JournalRead
  pub given : HasRead files r read
  pub why : refused read e

-- Which histories are taken, how a journal is refused and what is said differs between the commands. Each case has the
-- whole condition of its status. Where the shelf tells what it holds, no two of them hold of one call, but for faults
-- and for lack of memory.
abbrev pub JournalEnds : (JournalRead → Base → List Entry → Type 0) → (JournalRead → JournalRefusal → Type 0)
    → (Base → List Tried → ℕ → List ℕ)
    → ReplayCall → Option Names → Option Names → Status → List ℕ → Type 0
-- the solution and the report are out
JournalEnds taken refused said r old new Done text =
    (d : HasBest taken IsWritten r old new) × (text ≡ said d.base (tries d.history) d.place)
JournalEnds taken refused said r old new NoneFound text =
    IfTold Unchanged old new × HasNoBest taken r old × (text ≡ none_found_text)
JournalEnds taken refused said r old new (JournalRefused e) text =
    IfTold Unchanged old new × IsRefused refused r old e × (text ≡ journal_refused_text e)
JournalEnds taken refused said r old new (WriteFault (Some Out)) text =
    HasBest taken MayBeWritten r old new × (text ≡ unwritten_text r.out)
-- all is done but that the text couldn't be put out
JournalEnds taken refused said r old new (WriteFault None) text =
    (d : HasBest taken IsWritten r old new) × (text ≡ said d.base (tries d.history) d.place)
JournalEnds taken refused said r old new OutOfMemory text =
    (IfTold Unchanged old new ⊎ HasBest taken MayBeWritten r old new) × (text ≡ memory_text)
-- the files aren't as they ought to be
JournalEnds taken refused said r old new status text = IfTold Unchanged old new × EndsUnread old (replay_inputs r) status text
