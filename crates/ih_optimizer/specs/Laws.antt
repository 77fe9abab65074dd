-- Laws of searches, and of the calls that make them.
use Rattle.std.specs.Prelude.{◌≡◌, ℕ, true, false, List, [], ◌∷◌, ◌++◌, length, Option, Some, None, IfSome, ◌⊎◌}
use Rattle.ih_optimizer.specs.Below.Wards.{Draft, Timetable, bill_of, feasible, report, solution}
use Rattle.ih_optimizer.specs.Below.Arguments.{Text}
use Rattle.ih_optimizer.specs.Below.Endings.{AreAllWritten, AreSteps, Done, HasInputs, HasSolution, IfTold, IsWritten, Names, NoneFound, OutcomeState, Unchanged}
use Rattle.ih_optimizer.specs.Below.Searches.{AreSettingsOf, ImproverState, IsDetermined, IsNoDearer, Leaves, LegState, MayFollow, Outcome, Settings, Span, Terms, pins_of}
use Rattle.ih_optimizer.specs.Call.{ImproveCall, improve_inputs}
use Rattle.ih_optimizer.specs.Pacing.{attempts_of}
use Rattle.ih_optimizer.specs.Rounds.{HoldsBest, IsRound, SearchTask, changes_text, first_text, round_text}
use Rattle.ih_optimizer.specs.declared.pacing.Length.TheVariants.{Attempts}
use Rattle.ih_optimizer.specs.declared.rounds.RoundNumbers.{RoundNumbers}
use Rattle.ih_optimizer.specs.Pinning.{first_unknown}
use Rattle.ih_optimizer.specs.Searching.{ImproveEnds, IsLimit, IsSearch, begun}

-- what a call's search goes by, from an instance, a start and settings
abbrev pub call_terms : ImproveCall → Draft → Timetable → Settings → Terms
call_terms c I start s =
    record { instance = I; start = start; pins = pins_of I c.pins c.pin_nurses; settings = s }

-- The timetable is found by the search from a start, and written to OUT; or OUT had it, and nothing is written.
abbrev pub IsInOut : ImproveCall → Draft → Timetable → Settings → Timetable → Option Names → Option Names → Type 0
IsInOut c I start s P old new =
    (MayFollow (call_terms c I start s) start P × IfTold (IsWritten c.out (solution I P)) old new)
    ⊎ (IfSome old (HasSolution c.out I P) × IfTold Unchanged old new)

-- OUT has a feasible timetable, which is one that the search found and that keeps the start's choices that are before the
-- freeze day or pinned, or the one that was there and isn't dearer. Where the timetable that was given is feasible, it costs at most as
-- much, filled or not. What was told ends with the report on it, by its full bill.
pub record IsImproved (c : ImproveCall) (old new : Option Names) (text : List ℕ) : Type 0 where
  pub instance : Draft
  pub given : Timetable
  pub inputs : HasInputs old (improve_inputs c) instance given
  pub settings : Settings
  pub processors : ℕ
  pub are_settings : AreSettingsOf instance c.settings processors settings
  pub start : Timetable
  pub started : start ≡ begun c.start.fill settings.hard instance given
  pub best : Timetable
  pub feasible : feasible (bill_of instance best) ≡ true
  pub no_dearer : IsNoDearer instance given best
  pub named : first_unknown instance c.pins ≡ None
  pub in_out : IsInOut c instance start settings best old new
  -- how its changes are told, where the search found it and they weigh anything
  pub changes : List ℕ
  pub are_changes : (changes ≡ []) ⊎ (changes ≡ changes_text settings.keep instance start best)
  -- what no feasible timetable costs less than, where that is asked for: it is told first
  pub bound : Option Outcome
  pub limit : IsLimit c.is_bounded instance bound
  pub told : (before : List ℕ)
      × (text ≡ first_text bound 1 ++ (before ++ (report instance.weights (bill_of instance best) ++ changes)))

-- a call of improve that is done has improved
abbrev pub DoneCallsHaveImproved : Type 0
DoneCallsHaveImproved =
    (c : ImproveCall) (old new : Option Names) (text : List ℕ) → ImproveEnds c old new Done text
    → IsImproved c old new text

-- The draft has the solution of the timetable, where a file is named for it, and each other file has what it had.
abbrev pub IsDraft : Option Text → Draft → Timetable → Names → Names → Type 0
IsDraft None I P old new = Unchanged old new
IsDraft (Some name) I P old new = IsWritten name (solution I P) old new

-- a timetable of the call's instance is drafted, which isn't feasible
pub record IsDrafted (c : ImproveCall) (old new : Option Names) : Type 0 where
  pub instance : Draft
  pub given : Timetable
  pub inputs : HasInputs old (improve_inputs c) instance given
  pub best : Timetable
  pub infeasible : feasible (bill_of instance best) ≡ false
  pub written : IfTold (IsDraft c.draft instance best) old new

-- a call that finds none leaves each file as it was, but for the draft
abbrev pub NoneFoundLeavesADraft : Type 0
NoneFoundLeavesADraft =
    (c : ImproveCall) (old new : Option Names) (text : List ℕ) → ImproveEnds c old new NoneFound text
    → IsDrafted c old new

-- rounds that are over leave the best of them, however many they are
abbrev pub RoundsLeaveTheirBest : Type 0
RoundsLeaveTheirBest =
    (t : SearchTask) (v w : ImproverState) (rs : List OutcomeState) (old new : Names) → v.rounds ≡ 0
    → AreSteps (IsRound Leaves t) v rs w → AreAllWritten rs old new
    → HoldsBest t w old new

-- what is told of as many rounds is the same but for the temperatures and what the clock said
abbrev pub DifferInNumbers : SearchTask → List OutcomeState → List OutcomeState → Type 0
DifferInNumbers t [] [] = Unit {0}
DifferInNumbers t (o ∷ os) (p ∷ ps) =
    ((v : ImproverState) × (h : RoundNumbers) × (k : RoundNumbers) × (o.text ≡ round_text t.bound t.pace v h)
    × (p.text ≡ round_text t.bound t.pace v k))
    × DifferInNumbers t os ps
DifferInNumbers t os ps = ⊥

-- rounds with these spans lead from v to w, the last one first
abbrev pub AreRounds : (may_leave : LegState → ℕ → Timetable → Type 0) → SearchTask → ImproverState → List Span
    → List OutcomeState → ImproverState → Type 0
AreRounds may_leave t v [] [] w = w ≡ v
AreRounds may_leave t v (s ∷ ss) (o ∷ os) w =
    (u : ImproverState) × AreRounds may_leave t v ss os u
    × ((r : IsRound may_leave t u o w) × (r.span ≡ s))
AreRounds may_leave t v ss os w = ⊥

-- what rounds leave that were made twice
pub record IsTheSame (t : SearchTask) (rs ss : List OutcomeState) (w x : ImproverState) : Type 0 where
  pub search : w ≡ x
  pub told : DifferInNumbers t rs ss
  pub files : (old new other : Names) → AreAllWritten rs old new → AreAllWritten ss old other → Unchanged new other

-- Rounds of one search with the same spans, each led by determined workers, lead to the same and leave the same in each
-- file; and what is told of them differs at most in the temperatures and in what the clock said.
abbrev pub RoundsLeaveTheSame : (may_leave : LegState → ℕ → Timetable → Type 0) → Type 0
RoundsLeaveTheSame may_leave =
    IsDetermined may_leave → (t : SearchTask) (v w x : ImproverState) (spans : List Span) (rs ss : List OutcomeState)
    → AreRounds may_leave t v spans rs w → AreRounds may_leave t v spans ss x
    → IsTheSame t rs ss w x

-- where attempts are given, as many rounds of one search have the same spans: so they lead to the same
abbrev pub AttemptsLeaveTheSame : (may_leave : LegState → ℕ → Timetable → Type 0) → Type 0
AttemptsLeaveTheSame may_leave =
    IsDetermined may_leave → (t : SearchTask) (v w x : ImproverState) (rs ss : List OutcomeState)
    → t.pace.length ≡ Attempts (attempts_of t.pace.length) → length rs ≡ length ss
    → AreSteps (IsRound may_leave t) v rs w → AreSteps (IsRound may_leave t) v ss x
    → IsTheSame t rs ss w x

-- the words, the files and the number of processors determine the search of a call: its instance, its start and its
-- settings
abbrev pub SearchesAreDetermined : Type 0
SearchesAreDetermined =
    (c : ImproveCall) (files : Names) (held kept : Option Timetable) (bound limit : Option Outcome) (v w : ImproverState)
    (one : IsSearch (Some files) c held bound v) (other : IsSearch (Some files) c kept limit w) → one.from.processors ≡ other.from.processors → v ≡ w
