-- How a call ends that searches: what it then has read and written, and what it had to say, by its status. What
-- the shelf doesn't tell isn't claimed.
use Rattle.std.specs.Prelude.{◌≡◌, ◌≢◌, ℕ, List, Some, ◌<◌, ◌^◌, ◌⊎◌, map, Option, None}
use Rattle.ih_top.specs.Below.Wards.{solution}
use Rattle.ih_top.specs.Below.Arguments.{PlainCall, SolveCall}
use Rattle.ih_top.specs.Below.Endings.{Done, EndsUnread, IfTold, Journal, Names, NoneFound, Out, OutOfMemory, PartOr, Status, Unchanged, WriteFault, memory_text, none_found_text, unwritten_text}
use Rattle.ih_top.specs.Below.Searches.{Base, ChainEntry, Entry, HasNone, IsBase, IsBest, IsFull, Options, Tried, chain_journal, chain_tried, journal, plan_at, tried}
use Rattle.ih_top.specs.Histories.{IsSound, HasStart}
use Rattle.ih_top.specs.Commands.{solve_inputs}
use Rattle.ih_top.specs.Texts.{done_text}

-- each name has what it had, but for those that the call writes
abbrev pub OthersUnchanged : SolveCall → Names → Names → Type 0
OthersUnchanged s old new = (n : List ℕ) → n ≢ s.out → n ≢ s.journal → new n ≡ old n

-- the journal is written or begun, and nothing else
pub record BeginsJournal (s : SolveCall) (text : List ℕ) (old new : Names) : Type 0 where
  pub journal : PartOr text (old s.journal) (new s.journal)
  pub out : new s.out ≡ old s.out
  pub others : OthersUnchanged s old new

-- the journal is written whole, and nothing else
pub record WritesJournal (s : SolveCall) (text : List ℕ) (old new : Names) : Type 0 where
  pub journal : new s.journal ≡ Some text
  pub out : new s.out ≡ old s.out
  pub others : OthersUnchanged s old new

-- the journal is written whole, and the solution may be or may be begun
pub record BeginsSolution (s : SolveCall) (text solution : List ℕ) (old new : Names) : Type 0 where
  pub journal : new s.journal ≡ Some text
  pub out : PartOr solution (old s.out) (new s.out)
  pub others : OthersUnchanged s old new

-- the journal and the solution are written whole
pub record WritesBoth (s : SolveCall) (text solution : List ℕ) (old new : Names) : Type 0 where
  pub journal : new s.journal ≡ Some text
  pub out : new s.out ≡ Some solution
  pub others : OthersUnchanged s old new

-- what the files and the words give a search
pub record HasBase (files : Option Names) (s : SolveCall) (b : Base) : Type 0 where
  pub start : HasStart files s.instance s.start b
  pub options : b.options ≡ s.options

-- ---- what a search makes

-- How a search keeps what it makes, X, over a base. Its best timetable is at a place K of that.
pub record SearchForm (X K : Type 0) : Type 1 where
  pub is_made : Base → X → Type 0
  -- the bytes of the journal
  pub journal : Options → X → List ℕ
  -- no timetable of it is feasible
  pub has_none : Base → X → Type 0
  -- the first cheapest feasible timetable is there
  pub is_best : Base → X → K → Type 0
  -- the solution file of the timetable at a place, and what is said of it
  pub solution : Base → X → K → List ℕ
  pub said : Base → X → K → List ℕ

-- the solution file of the timetable at a place
abbrev pub solution_at : Base → List Tried → ℕ → List ℕ
solution_at b H k = solution b.instance (plan_at b H k)

-- a full history of attempts with so many moves
pub record IsHistory (each : ℕ) (b : Base) (H : List Tried) : Type 0 where
  pub full : IsFull b each H
  pub sound : IsSound b H

-- one search, by what its entries stand for, the text of its journal, and how many moves an attempt has
abbrev pub of_history : {E : Type 0} → (E → Tried) → (Options → List E → List ℕ) → ℕ → SearchForm (List E) ℕ
of_history tried journal each = record {
  is_made = λ b H. IsHistory each b (map tried H);
  journal = journal;
  has_none = λ b H. HasNone b (map tried H);
  is_best = λ b H k. IsBest b (map tried H) k;
  solution = λ b H k. solution_at b (map tried H) k;
  said = λ b H k. done_text b (map tried H) k;
}

-- what a search makes over what the files and the words give; the start is a timetable of the instance, and the options
-- are lawful
pub record IsSearch {X K : Type 0} (form : SearchForm X K) (files : Option Names) (s : SolveCall) (b : Base)
    (H : X) : Type 0 where
  pub base : HasBase files s b
  pub given : IsBase b
  pub seed : b.options.seed < 2 ^ 64
  pub made : form.is_made b H

-- ---- what its call leaves

-- the journal is written, as far as `writes` says
pub record HasSearched {X K : Type 0} (writes : SolveCall → List ℕ → Names → Names → Type 0) (form : SearchForm X K)
    (s : SolveCall) (old new : Option Names) : Type 0 where
  pub base : Base
  pub history : X
  pub search : IsSearch form old s base history
  pub written : IfTold (writes s (form.journal base.options history)) old new

-- the journal and the solution of the first cheapest feasible timetable are written, as far as `writes` says
pub record HasFoundBest {X K : Type 0} (writes : SolveCall → List ℕ → List ℕ → Names → Names → Type 0)
    (form : SearchForm X K) (s : SolveCall) (old new : Option Names) : Type 0 where
  pub base : Base
  pub history : X
  pub place : K
  pub search : IsSearch form old s base history
  pub best : form.is_best base history place
  pub written : IfTold (writes s (form.journal base.options history) (form.solution base history place)) old new

-- the journal is written or begun
abbrev pub HasBegun : {X K : Type 0} → SearchForm X K → SolveCall → Option Names → Option Names → Type 0
HasBegun form s old new = HasSearched BeginsJournal form s old new

-- the journal is written, and no timetable is feasible
abbrev pub HasFoundNone : {X K : Type 0} → SearchForm X K → SolveCall → Option Names → Option Names → Type 0
HasFoundNone form s old new = (h : HasSearched WritesJournal form s old new) × form.has_none h.base h.history

-- the journal is written, and the solution may be begun
abbrev pub HasFound : {X K : Type 0} → SearchForm X K → SolveCall → Option Names → Option Names → Type 0
HasFound form s old new = HasFoundBest BeginsSolution form s old new

-- both are written, and this is what is said of it
abbrev pub IsDone : {X K : Type 0} → SearchForm X K → SolveCall → Option Names → Option Names → List ℕ → Type 0
IsDone form s old new text =
    (h : HasFoundBest WritesBoth form s old new) × (text ≡ form.said h.base h.history h.place)

-- How a call ends that searches, and writes the journal of that and the solution of its best. Each case has the whole
-- condition of its status. Where the shelf tells what it holds, no two cases hold of one call, but for faults and for
-- lack of memory.
abbrev pub SearchEnds : {X K : Type 0} → SearchForm X K → SolveCall → Option Names → Option Names
    → Status → List ℕ → Type 0
-- the journal, the first cheapest feasible timetable and its report are out
SearchEnds form s old new Done text = IsDone form s old new text
-- the journal is out, and no timetable of it is feasible
SearchEnds form s old new NoneFound text = HasFoundNone form s old new × (text ≡ none_found_text)
SearchEnds form s old new (WriteFault (Some Journal)) text = HasBegun form s old new × (text ≡ unwritten_text s.journal)
SearchEnds form s old new (WriteFault (Some Out)) text = HasFound form s old new × (text ≡ unwritten_text s.out)
-- all is done but that the text couldn't be put out
SearchEnds form s old new (WriteFault None) text = IsDone form s old new text
-- the files are as far as the call had come
SearchEnds form s old new OutOfMemory text =
    (IfTold Unchanged old new ⊎ HasBegun form s old new ⊎ HasFound form s old new) × (text ≡ memory_text)
-- the files aren't as they ought to be
SearchEnds form s old new status text = IfTold Unchanged old new × EndsUnread old (solve_inputs s) status text

-- a search of single moves
abbrev pub of_moves : SearchForm (List Entry) ℕ
of_moves = of_history tried journal 1

-- how a call of solve ends
abbrev pub SolveEnds : SolveCall → Option Names → Option Names → Status → List ℕ → Type 0
SolveEnds s old new status text = SearchEnds of_moves s old new status text

-- a search by chains of so many moves
abbrev pub of_chains : ℕ → SearchForm (List ChainEntry) ℕ
of_chains each = of_history chain_tried (λ o H. chain_journal o each H) each

abbrev pub ChainEnds : PlainCall → Option Names → Option Names → Status → List ℕ → Type 0
ChainEnds c old new status text = SearchEnds (of_chains c.number) c.search old new status text
