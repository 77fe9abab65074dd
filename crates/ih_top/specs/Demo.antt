-- How a call of demo ends: what it had to say, by its status. It reads and writes no file.
use Rattle.std.specs.Prelude.{◌≡◌, ℕ, List, length, Option, Some, None, Ok}
use Rattle.ih_top.specs.Below.Wards.{empty, instance}
use Rattle.ih_top.specs.Below.Endings.{Done, NoneFound, OutOfMemory, Status, WriteFault, memory_text, none_found_text}
use Rattle.ih_top.specs.Below.Searches.{AreExact, Base, Entry, HasNone, IsBest, IsFull, Options, fill, is_stale, tries}
use Rattle.ih_gen.specs.Generated.{generated}
use Rattle.ih_top.specs.Texts.{demo_text, verdicts_of}

-- one worker with the number as its seed
abbrev pub demo_options : ℕ → Options
demo_options number = record { seed = number; workers = 1; moves = 2000; heat = 50; hard = 100000; retries = 0 }

-- the search begins with the fill of the empty timetable of the instance that the number generates, and nothing is
-- frozen
pub record IsDemoBase (number : ℕ) (b : Base) : Type 0 where
  pub instance : instance (generated number) ≡ Ok b.instance
  pub start : b.start ≡ fill b.instance 100000 (empty b.instance)
  pub options : b.options ≡ demo_options number
  pub freeze : b.freeze ≡ 0

-- A full history over that, whose accepted prices are exact. It has 2000 entries, and none of them is stale, so its
-- text says `of 2000` and `stale 0`.
pub record IsDemo (number : ℕ) (b : Base) (H : List Entry) : Type 0 where
  pub base : IsDemoBase number b
  pub full : IsFull b 1 (tries H)
  pub exact : AreExact b (tries H)
  pub many : length H ≡ 2000
  pub fresh : verdicts_of is_stale H ≡ 0

-- this is what is said of the history's first cheapest feasible timetable, where it has one
abbrev pub HasSaid : ℕ → Base → List Entry → Option (List ℕ) → Type 0
HasSaid number b H None = HasNone b (tries H)
HasSaid number b H (Some text) = (k : ℕ) × IsBest b (tries H) k × (text ≡ demo_text number b H k)

-- the search was made, and this is what is said of it
pub record IsShown (number : ℕ) (said : Option (List ℕ)) : Type 0 where
  pub base : Base
  pub history : List Entry
  pub demo : IsDemo number base history
  pub said_is : HasSaid number base history said

abbrev pub DemoEnds : ℕ → Status → List ℕ → Type 0
DemoEnds number Done text = IsShown number (Some text)
-- no timetable of the history is feasible
DemoEnds number NoneFound text = IsShown number None × (text ≡ none_found_text)
-- the text couldn't be put out
DemoEnds number (WriteFault None) text = IsShown number (Some text)
DemoEnds number OutOfMemory text = text ≡ memory_text
DemoEnds number status text = ⊥
