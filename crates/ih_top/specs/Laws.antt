-- Laws of journals and of calls of the program.
use Rattle.std.specs.Prelude.{◌≡◌, ◌≢◌, ◌≤◌, ◌+◌, ◌==◌, ◌⊎◌, ℕ, List, ◌∷◌, ◌++◌, length, Option, Some, None}
use Rattle.std.specs.List.{count_by}
use Rattle.ih_top.specs.Below.Wards.{Extra, IsValid, JournalRefusal}
use Rattle.ih_top.specs.Below.Arguments.{IsNamed, PlainCall, ReplayCall, SolveCall, chain, rounds}
use Rattle.ih_top.specs.Below.Endings.{Done, HasNoFault, JournalRefused, MAX_JOURNAL, Names, NoneFound, OutOfMemory, Status, bytes_at, none_found_text}
use Rattle.ih_top.specs.Below.Searches.{AreLegal, Base, ChainEntry, Entry, HasNone, IsBase, IsBest, Options, Round, Tried, base_in, chain_journal, histories, journal, journals, lines_from, tries}
use Rattle.ih_top.specs.Searches.{of_chains, HasFoundNone, IsDone, IsSearch, SearchEnds, SearchForm, solution_at, of_moves}
use Rattle.ih_top.specs.Demo.{IsShown}
use Rattle.ih_top.specs.JournalFiles.{HasStartGiven, HasNoHeading, no_heading}
use Rattle.ih_top.specs.JournalLines.{Begins, IsRefusedAt}
use Rattle.ih_top.specs.JournalUses.{AreNotFull, ReplayEnds, SalvageEnds}
use Rattle.ih_top.specs.Rounds.{of_rounds}
use Rattle.ih_top.specs.Texts.{journal_refused_text, salvaged_line, salvaged_text}

-- lines that are refused are those of no full history
abbrev pub RefusedLinesAreNotFull : Type 0
RefusedLinesAreNotFull = (b : Base) (bytes : List ℕ) (H : List Entry) (e : JournalRefusal) → IsValid b.instance
    → IsBase b → IsRefusedAt b bytes H e → AreNotFull b bytes

-- of the lines of a legal history that are cut off anywhere, each whole one is salvaged: there are as many as line
-- feeds
abbrev pub WholeLinesAreSalvaged : Type 0
WholeLinesAreSalvaged = (b : Base) (G : List Entry) (bytes more : List ℕ) (H : List Entry) (rest : List ℕ)
    → IsValid b.instance → IsBase b → AreLegal b 1 (tries G)
    → bytes ++ more ≡ lines_from b.options 0 G → Begins b bytes H rest → length H ≡ count_by (λ c. c == 10) bytes

-- ---- searches of one worker

-- with one worker, files and words give one search and one history, by single moves, by chains or in rounds
abbrev pub LoneSearchesAreAlike : {X K : Type 0} → SearchForm X K → Type 0
LoneSearchesAreAlike {X} form = (files : Names) (s : SolveCall) (b c : Base) (H G : X) → s.options.workers ≡ 1
    → IsSearch form (Some files) s b H → IsSearch form (Some files) s c G → (b ≡ c) × (H ≡ G)

-- two calls that are done leave the same journal and the same solution, and say the same
pub record DoTheSame (s : SolveCall) (new other : Names) (text told : List ℕ) : Type 0 where
  pub journal : new s.journal ≡ other s.journal
  pub solution : new s.out ≡ other s.out
  pub said : text ≡ told

abbrev pub LoneSearchesDoTheSame : {X K : Type 0} → SearchForm X K → Type 0
LoneSearchesDoTheSame form = (s : SolveCall) (old new other : Names) (text told : List ℕ) → s.options.workers ≡ 1
    → IsDone form s (Some old) (Some new) text → IsDone form s (Some old) (Some other) told
    → DoTheSame s new other text told

-- two calls ended in the same status, said the same and left the same files
pub record EndTheSame (first second : Status) (text told : List ℕ) (new other : Names) : Type 0 where
  pub status : first ≡ second
  pub said : text ≡ told
  pub files : (n : List ℕ) → new n ≡ other n

-- However two calls over the same files end, also where a file is refused: with no fault, and memory enough, they end
-- the same.
abbrev pub LoneSearchesEndAlike : {X K : Type 0} → SearchForm X K → Type 0
LoneSearchesEndAlike form =
    (s : SolveCall) (old new other : Names) (status ended : Status) (text told : List ℕ) → s.options.workers ≡ 1
    → HasNoFault status → HasNoFault ended → status ≢ OutOfMemory → ended ≢ OutOfMemory
    → SearchEnds form s (Some old) (Some new) status text → SearchEnds form s (Some old) (Some other) ended told
    → EndTheSame status ended text told new other

-- what a demo shows follows from its number
abbrev pub DemosShowTheSame : Type 0
DemosShowTheSame = (number : ℕ) (said told : Option (List ℕ)) → IsShown number said → IsShown number told → said ≡ told

-- ---- what a journal tells

-- a call left the journal of this
pub record HasLeft {X K : Type 0} (form : SearchForm X K) (s : SolveCall) (old new : Names) (b : Base) (H : X)
    : Type 0 where
  pub search : IsSearch form (Some old) s b H
  pub written : new s.journal ≡ Some (form.journal b.options H)

-- Two calls of solve over instances with the same bytes, which left the same journal, had the same options and made the
-- same history.
abbrev pub SolvesAreToldApart : Type 0
SolvesAreToldApart = (s t : SolveCall) (old new before after : Names) (b c : Base) (H G : List Entry)
    → bytes_at old s.instance ≡ bytes_at before t.instance
    → HasLeft of_moves s old new b H → HasLeft of_moves t before after c G → new s.journal ≡ after t.journal
    → (s.options ≡ t.options) × (H ≡ G)

-- Two calls of chain that words name, over instances with the same bytes, which left the same journal, had the same
-- options and chains of the same length, and made the same history.
abbrev pub ChainsAreToldApart : Type 0
ChainsAreToldApart = (s t : PlainCall) (old new before after : Names) (b c : Base) (H G : List ChainEntry)
    → IsNamed (chain s) → IsNamed (chain t) → bytes_at old s.search.instance ≡ bytes_at before t.search.instance
    → HasLeft (of_chains s.number) s.search old new b H → HasLeft (of_chains t.number) t.search before after c G
    → new s.search.journal ≡ after t.search.journal
    → (s.search.options ≡ t.search.options) × (s.number ≡ t.number) × (H ≡ G)

-- Two calls of rounds that words name, over instances with the same bytes, which left the same journal, had the same
-- options and as many rounds, and each round has the same history.
abbrev pub RoundsAreToldApart : Type 0
RoundsAreToldApart = (s t : PlainCall) (old new before after : Names) (b c : Base) (rs ss : List Round)
    → IsNamed (rounds s) → IsNamed (rounds t) → bytes_at old s.search.instance ≡ bytes_at before t.search.instance
    → HasLeft (of_rounds s.number) s.search old new b rs → HasLeft (of_rounds t.number) t.search before after c ss
    → new s.search.journal ≡ after t.search.journal
    → (s.search.options ≡ t.search.options) × (s.number ≡ t.number) × (histories rs ≡ histories ss)

-- ---- what solve writes, replay and salvage take

-- the journal of a search is no longer than replay and salvage may read
abbrev pub JournalsFit : Type 0
JournalsFit = (files : Names) (s : SolveCall) (b : Base) (H : List Entry) → IsSearch of_moves (Some files) s b H
    → length (journal b.options H) ≤ MAX_JOURNAL

-- neither names a file, or each names one, under whatever names, and these have the same bytes
abbrev pub HaveSameBytes : Names → Names → Option (List ℕ) → Option (List ℕ) → Type 0
HaveSameBytes there before None None = Unit {0}
HaveSameBytes there before (Some name) (Some other) = bytes_at there name ≡ bytes_at before other
HaveSameBytes there before file other = ⊥

-- The instance and the start are there as the search found them, and the journal as it left it, under whatever names;
-- the start is filled, and choices are frozen, as the search was asked to.
pub record IsReplayOf (s : SolveCall) (r : ReplayCall) (before after there : Names) : Type 0 where
  pub same_instance : bytes_at there r.instance ≡ bytes_at before s.instance
  pub same_start : HaveSameBytes there before r.start.file s.start.file
  pub fill : r.start.fill ≡ s.start.fill
  pub freeze : r.start.freeze ≡ s.start.freeze
  pub journal : bytes_at there r.journal ≡ bytes_at after s.journal

-- A call that ended with no fault ended in this status with this text, and what it left is as told; or memory ran out.
abbrev pub EndsIn : Status → List ℕ → Type 0 → Status → List ℕ → Type 0
EndsIn wanted text left status said = (status ≡ OutOfMemory) ⊎ ((status ≡ wanted) × (said ≡ text) × left)

-- After solve wrote its best, replay of its journal writes the same solution and says the same, and salvage says before
-- it that there are so many lines.
pub record IsReplayedAlike (s : SolveCall) (r : ReplayCall) (before after there left : Names) (text : List ℕ)
    (lines : ℕ) (ended : Status) (said : List ℕ) : Type 0 where
  pub replayed : ReplayEnds r (Some there) (Some left) ended said
      → EndsIn Done text (left r.out ≡ after s.out) ended said
  pub salvaged : SalvageEnds r (Some there) (Some left) ended said
      → EndsIn Done (salvaged_line lines ++ text) (left r.out ≡ after s.out) ended said

-- where it found none, neither do they
pub record IsReplayedAsNone (r : ReplayCall) (there left : Names) (ended : Status) (said : List ℕ) : Type 0 where
  pub replayed : ReplayEnds r (Some there) (Some left) ended said
      → EndsIn NoneFound none_found_text (Unit {0}) ended said
  pub salvaged : SalvageEnds r (Some there) (Some left) ended said
      → EndsIn NoneFound none_found_text (Unit {0}) ended said

abbrev pub SolvesReplayTheSame : Type 0
SolvesReplayTheSame =
    (s : SolveCall) (r : ReplayCall) (before after there left : Names) (text : List ℕ) (ended : Status) (said : List ℕ)
    → IsReplayOf s r before after there → HasNoFault ended → (done : IsDone of_moves s (Some before) (Some after) text)
    → IsReplayedAlike s r before after there left text (length done.0.history) ended said

abbrev pub SolvesWithNoneReplayTheSame : Type 0
SolvesWithNoneReplayTheSame =
    (s : SolveCall) (r : ReplayCall) (before after there left : Names) (ended : Status) (said : List ℕ)
    → IsReplayOf s r before after there → HasNoFault ended → HasFoundNone of_moves s (Some before) (Some after)
    → IsReplayedAsNone r there left ended said

-- ---- journals of chains

-- the journal of a search by chains has no heading of a journal of single moves
abbrev pub ChainJournalsAreHeadless : Type 0
ChainJournalsAreHeadless = (o : Options) (each : ℕ) (H : List ChainEntry) → HasNoHeading (chain_journal o each H)

-- the journal of a search by chains that words name is no longer than a journal's file may be
abbrev pub ChainJournalsFit : Type 0
ChainJournalsFit = (files : Names) (c : PlainCall) (b : Base) (H : List ChainEntry) → IsNamed (chain c)
    → IsSearch (of_chains c.number) (Some files) c.search b H
    → length (chain_journal b.options c.number H) ≤ MAX_JOURNAL

-- After a search by chains left its journal, replay and salvage refuse that at its heading, or memory runs out.
pub record IsRefusedBack (r : ReplayCall) (there left : Names) (ended : Status) (said : List ℕ) : Type 0 where
  pub replayed : ReplayEnds r (Some there) (Some left) ended said
      → EndsIn (JournalRefused no_heading) (journal_refused_text no_heading) (Unit {0}) ended said
  pub salvaged : SalvageEnds r (Some there) (Some left) ended said
      → EndsIn (JournalRefused no_heading) (journal_refused_text no_heading) (Unit {0}) ended said

-- Replay and salvage refuse the journal of a search by chains at its heading, whatever instance and start are given.
abbrev pub ChainsAreRefused : Type 0
ChainsAreRefused = (c : PlainCall) (r : ReplayCall) (before after there left : Names) (b : Base) (H : List ChainEntry)
    (ended : Status) (said : List ℕ)
    → IsNamed (chain c) → HasLeft (of_chains c.number) c.search before after b H
    → HasStartGiven (Some there) r → bytes_at there r.journal ≡ bytes_at after c.search.journal → HasNoFault ended
    → IsRefusedBack r there left ended said

-- ---- journals of rounds

-- where a journal of rounds goes on behind that of the first
abbrev pub second_heading : Round → JournalRefusal
second_heading first = record { line = length first.history + 2; reason = Extra }

-- the journals of rounds that words name are no longer than a journal's file may be
abbrev pub RoundJournalsFit : Type 0
RoundJournalsFit = (files : Names) (c : PlainCall) (b : Base) (rs : List Round) → IsNamed (rounds c)
    → IsSearch (of_rounds c.number) (Some files) c.search b rs → length (journals b.options 0 rs) ≤ MAX_JOURNAL

-- After two rounds or more left their journals, replay refuses them at the second heading, or memory runs out.
abbrev pub RoundsAreRefused : Type 0
RoundsAreRefused = (c : PlainCall) (r : ReplayCall) (before after there left : Names) (b : Base)
    (first second : Round) (later : List Round) (ended : Status) (said : List ℕ)
    → IsNamed (rounds c) → HasLeft (of_rounds c.number) c.search before after b (first ∷ second ∷ later)
    → IsReplayOf c.search r before after there → HasNoFault ended → ReplayEnds r (Some there) (Some left) ended said
    → EndsIn (JournalRefused (second_heading first)) (journal_refused_text (second_heading first)) (Unit {0}) ended said

-- A call with no fault came to this history: it wrote the solution of its best and said so, or said that it has none;
-- or memory ran out.
abbrev pub ComesTo : (Base → List Tried → ℕ → List ℕ) → Base → List Entry → Option (List ℕ) → Status → List ℕ → Type 0
ComesTo said b H out ended text =
    (ended ≡ OutOfMemory)
    ⊎ ((k : ℕ) × IsBest b (tries H) k × (ended ≡ Done) × (text ≡ said b (tries H) k)
    × (out ≡ Some (solution_at b (tries H) k)))
    ⊎ (HasNone b (tries H) × (ended ≡ NoneFound) × (text ≡ none_found_text))

-- Of such journals salvage takes the history of the first round, whatever the later ones are.
abbrev pub RoundsAreSalvaged : Type 0
RoundsAreSalvaged = (c : PlainCall) (r : ReplayCall) (before after there left : Names) (b : Base)
    (first second : Round) (later : List Round) (ended : Status) (said : List ℕ)
    → IsNamed (rounds c) → HasLeft (of_rounds c.number) c.search before after b (first ∷ second ∷ later)
    → IsReplayOf c.search r before after there → HasNoFault ended → SalvageEnds r (Some there) (Some left) ended said
    → ComesTo salvaged_text (base_in b 0 first) first.history (left r.out) ended said
