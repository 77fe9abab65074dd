-- What a search or a journal makes to be written and said.
use Rattle.std.specs.Prelude.{◌≡◌, ℕ, ℤ, ◌<◌, ◌^◌, List, [], ◌∷◌, Option, Some, None}
use Rattle.ih_top.specs.Below.Wards.{Draft, JournalRefusal, Timetable, bill_of, solution}
use Rattle.ih_top.specs.Below.Arguments.{SolveCall}
use Rattle.ih_top.specs.Below.Endings.{Done, Given, Journal, JournalRefused, NoneFound, Out, OutcomeState, WritingState, none_found_text, says, writes_one}
use Rattle.ih_top.specs.Below.Searches.{Base, Entry, HasNone, IsBase, IsBest, Tried, started, tries}
use Rattle.ih_top.specs.declared.output.Output.{Output}
use Rattle.ih_top.specs.declared.output.BestOutput.{BestOutput}
use Rattle.ih_top.specs.Texts.{done_text, found_text, journal_refused_text}
use Rattle.ih_top.specs.Searches.{SearchForm, solution_at}
use Rattle.ih_top.specs.declared.outcome.JournalOutcome.{JournalOutcome}
use Rattle.ih_top.specs.declared.outcome.JournalOutcome.TheVariants.{Refused, Taken}

-- a best, its solution and what is said of it
pub record IsSaidBest {K : Type 0} (is_best : K → Type 0) (solution_of said : K → List ℕ) (o : BestOutput) : Type 0 where
  pub place : K
  pub best : is_best place
  pub solution : o.solution.items ≡ solution_of place
  pub text : o.text.items ≡ said place

-- a best, its solution and what is said of it, where there is one; else `none` holds
abbrev pub HasSaidBest : {K : Type 0} → Type 0 → (K → Type 0) → (K → List ℕ) → (K → List ℕ) → Option BestOutput → Type 0
HasSaidBest none is_best solution said None = none
HasSaidBest none is_best solution said (Some o) = IsSaidBest is_best solution said o

-- of a history
abbrev pub IsBestSaid : (Base → List Tried → ℕ → List ℕ) → Base → List Tried → BestOutput → Type 0
IsBestSaid said b H o = IsSaidBest (IsBest b H) (solution_at b H) (said b H) o

abbrev pub HasBestSaid : (Base → List Tried → ℕ → List ℕ) → Base → List Tried → Option BestOutput → Type 0
HasBestSaid said b H o = HasSaidBest (HasNone b H) (IsBest b H) (solution_at b H) (said b H) o

abbrev pub IsBestOutput : Base → List Tried → BestOutput → Type 0
IsBestOutput b H o = IsBestSaid done_text b H o

abbrev pub HasBestOutput : Base → List Tried → Option BestOutput → Type 0
HasBestOutput b H o = HasBestSaid done_text b H o

-- of what a search makes
abbrev pub HasBestMade : {X K : Type 0} → SearchForm X K → Base → X → Option BestOutput → Type 0
HasBestMade form b H o = HasSaidBest (form.has_none b H) (form.is_best b H) (form.solution b H) (form.said b H) o

-- the journal of what a search makes, and its best where there is one
pub record IsOutput {X K : Type 0} (form : SearchForm X K) (b : Base) (o : Output) : Type 0 where
  pub history : X
  pub given : IsBase b
  pub seed : b.options.seed < 2 ^ 64
  pub made : form.is_made b history
  pub journal : o.journal.items ≡ form.journal b.options history
  pub best : HasBestMade form b history o.best

-- The solution of the best among so many entries, where there is one, and what is said of it. Of a run the place of the
-- best and its timetable are there together, or neither is.
abbrev pub IsBestOfRun : Draft → Option (ℕ × ℤ) → Option Timetable → ℕ → Option BestOutput → Type 0
IsBestOfRun I (Some best) (Some P) count (Some o) =
    (o.solution.items ≡ solution I P) × (o.text.items ≡ found_text best.0 count I.weights (bill_of I P))
IsBestOfRun I (Some best) (Some P) count None = ⊥
IsBestOfRun I None plan count (Some o) = ⊥
IsBestOfRun I best None count (Some o) = ⊥
IsBestOfRun I best plan count None = Unit {0}

-- a search from what the files give
abbrev pub base_from : SolveCall → Given → Base
base_from s g = record {
  instance = g.instance;
  start = started s.start.fill s.options.hard g.instance g.plan;
  options = s.options;
  freeze = s.start.freeze;
}

-- ---- what is written and said

abbrev pub journal_writing : SolveCall → List ℕ → WritingState
journal_writing s bytes = record { role = Journal; name = s.journal; bytes = bytes }

abbrev pub solution_writing : SolveCall → List ℕ → WritingState
solution_writing s bytes = record { role = Out; name = s.out; bytes = bytes }

-- the journal is written, then the solution of the best where there is one
abbrev pub search_outcome : SolveCall → List ℕ → Option BestOutput → OutcomeState
search_outcome s journal None =
    record { writes = journal_writing s journal ∷ []; text = none_found_text; status = NoneFound }
search_outcome s journal (Some best) = record {
  writes = journal_writing s journal ∷ solution_writing s best.solution.items ∷ [];
  text = best.text.items;
  status = Done;
}

-- a history was taken, and its best was made ready where there is one
pub record IsTaken (taken : Base → List Entry → Type 0) (said : Base → List Tried → ℕ → List ℕ)
    (best : Option BestOutput) : Type 0 where
  pub base : Base
  pub history : List Entry
  pub taken_is : taken base history
  pub output : HasBestSaid said base (tries history) best

abbrev pub IsOutcome : (Base → List Entry → Type 0) → (JournalRefusal → Type 0) → (Base → List Tried → ℕ → List ℕ)
    → JournalOutcome → Type 0
IsOutcome taken refused said (Refused e) = refused e
IsOutcome taken refused said (Taken best) = IsTaken taken said best

-- the solution of the best is written, where there is one
abbrev pub journal_outcome : List ℕ → JournalOutcome → OutcomeState
journal_outcome out (Refused e) = says (JournalRefused e) (journal_refused_text e)
journal_outcome out (Taken None) = says NoneFound none_found_text
journal_outcome out (Taken (Some best)) = writes_one Out out best.solution.items best.text.items
