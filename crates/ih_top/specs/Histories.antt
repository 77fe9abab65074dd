-- What a search starts from, by the files and the words, and what holds of each history that the program makes, or
-- takes from a journal.
use Rattle.std.specs.Prelude.{◌≡◌, ℕ, List, Option}
use Rattle.ih_top.specs.Below.Wards.{Draft, Timetable}
use Rattle.ih_top.specs.Below.Arguments.{StartCall}
use Rattle.ih_top.specs.Below.Endings.{HasInputs, Names, two_files}
use Rattle.ih_top.specs.Below.Searches.{AgreesBefore, AreExact, Base, IsBase, Tried, plan_at, started}

-- A search begins as the words say, on an instance and with a timetable that was read. The fill takes the weight of a
-- broken rule from the options.
pub record IsStarted (s : StartCall) (I : Draft) (P : Timetable) (b : Base) : Type 0 where
  pub instance : b.instance ≡ I
  pub start : b.start ≡ started s.fill b.options.hard I P
  pub freeze : b.freeze ≡ s.freeze

-- what the files and the words give a search, but for its options
pub record HasStart (files : Option Names) (instance : List ℕ) (s : StartCall) (b : Base) : Type 0 where
  pub plan : Timetable
  pub inputs : HasInputs files (two_files instance s.file) b.instance plan
  pub started : IsStarted s b.instance plan b

-- The start is a timetable of the instance, and the options are lawful. Each timetable of the history agrees with the
-- start on the choices before the freeze day, and each accepted price is the change of the bill at its own place.
pub record IsSound (b : Base) (H : List Tried) : Type 0 where
  pub given : IsBase b
  pub agrees : (k : ℕ) → AgreesBefore b (plan_at b H k)
  pub exact : AreExact b H
