-- The rounds of a search: what each leads to, what it writes and what it tells.
use Rattle.std.specs.Prelude.{◌≡◌, ◌==◌, ℕ, ◌+◌, ◌*◌, ◌<◌, ◌≤◌, ◌&&◌, ◌||◌, Bool, true, false, nat_eq, List, [], ◌∷◌, ◌++◌, Option, Some, None, codes, decimal, if◌then◌else◌}
use Rattle.std.specs.Fmt.{signed_decimal}
use Rattle.ih_optimizer.specs.Below.Wards.{Draft, Timetable, bill_of, cost, feasible, report, solution}
use Rattle.ih_optimizer.specs.Below.Endings.{Done, IsWritten, Names, NoneFound, OthersKept, Out, OutcomeState, Unchanged, WritingState, none_found_text, says}
use Rattle.ih_optimizer.specs.Below.Searches.{ImproverState, IsNoWorse, Leads, LegState, MayFollow, Outcome, Span, gap_text, is_better_than, led_to, limit_line, terms_of}
use Rattle.ih_bound.specs.declared.outcomes.Outcome.TheVariants.{Infeasible, AtLeast}
use Rattle.ih_changes.specs.Changes.{counted}
use Rattle.ih_changes.specs.declared.counts.Changes.{Changes}
use Rattle.ih_optimizer.specs.Pacing.{IsNextSpan, least_rounds}
use Rattle.ih_optimizer.specs.declared.pacing.Length.{Length}
use Rattle.ih_optimizer.specs.declared.pacing.Length.TheVariants.{Attempts, Seconds}
use Rattle.ih_optimizer.specs.declared.pacing.Pace.{Pace}
use Rattle.ih_optimizer.specs.declared.rounds.RoundNumbers.{RoundNumbers}

-- What a search goes by: the file of the best and the timetable that it has, where that may stay; the file of a draft, where
-- there is one; what no feasible timetable costs less than, where that is told; and how long it goes on.
pub record SearchTask : Type 0 where
  pub out : List ℕ
  pub held : Option Timetable
  pub draft : Option (List ℕ)
  pub bound : Option Outcome
  pub pace : Pace

-- ---- what is written

-- the best of a round that led from v to w is new: the round is the first, or it found a better one
abbrev pub is_new : (v w : ImproverState) → Bool
is_new v w = nat_eq v.rounds 0 || is_better_than (terms_of v) w.kept v.kept

-- the solution of the best so far, for OUT or for a draft
abbrev pub best_writing : List ℕ → ImproverState → WritingState
best_writing out v = record { role = Out; name = out; bytes = solution v.instance v.kept }

-- there is no such timetable, or the best so far is better
abbrev pub beats : ImproverState → Option Timetable → Bool
beats v None = true
beats v (Some H) = is_better_than (terms_of v) v.kept H

-- the best so far goes to OUT: it is feasible, and better than what OUT has
abbrev pub goes_out : SearchTask → ImproverState → Bool
goes_out t v = feasible (bill_of v.instance v.kept) && beats v t.held

-- the best so far is written, where a file is named for it
abbrev pub best_writes : Option (List ℕ) → ImproverState → List WritingState
best_writes None v = []
best_writes (Some name) v = best_writing name v ∷ []

-- the file that a round from v to w writes: OUT, where the best goes there and is new
abbrev pub round_out : SearchTask → (v w : ImproverState) → Option (List ℕ)
round_out t v w = if is_new v w && goes_out t w then Some t.out else None

-- ---- what is told

-- the cost of the best timetable so far, where that is feasible
abbrev pub best_text : ImproverState → List ℕ
best_text v =
    if feasible (bill_of v.instance v.kept)
    then codes "cost " ++ signed_decimal (cost v.instance.weights (bill_of v.instance v.kept))
    else codes "none yet"

-- which round it is; where attempts are given, of how many
abbrev pub number_text : Length → ℕ → ℕ → List ℕ
number_text (Attempts n) rounds made = decimal made ++ (codes " of " ++ decimal rounds)
number_text (Seconds s) rounds made = decimal made

-- by the clock, how much time is left, and how many attempts were made a second
abbrev pub time_text : Length → RoundNumbers → List ℕ
time_text (Attempts n) told = []
time_text (Seconds s) told =
    codes ", " ++ (decimal told.left ++ (codes " s left, " ++ (decimal told.rate ++ codes " attempts a second")))

-- what no feasible timetable costs less than, before the line of the first round, where that is told
abbrev pub first_text : Option Outcome → ℕ → List ℕ
first_text None rounds = []
first_text (Some o) rounds = if rounds == 1 then limit_line o else []

-- how far the best timetable so far may be above the best possible, where that is told and it is feasible
abbrev pub gap_so_far : Option Outcome → ImproverState → List ℕ
gap_so_far None v = []
gap_so_far (Some Infeasible) v = []
gap_so_far (Some (AtLeast b)) v =
    if feasible (bill_of v.instance v.kept)
    then gap_text (cost v.instance.weights (bill_of v.instance v.kept)) b.value
    else []

-- the line of the round that is over, with the attempts of all workers so far, but for its end
abbrev pub round_line : Pace → ImproverState → RoundNumbers → List ℕ
round_line p v told =
    codes "round " ++ (number_text p.length p.rounds v.rounds ++ (codes ": "
    ++ (decimal (v.settings.workers * v.attempts) ++ (codes " attempts, "
    ++ (best_text v ++ (codes ", temperature " ++ (decimal told.temperature ++ time_text p.length told)))))))

-- what is told of the round that is over
abbrev pub round_text : Option Outcome → Pace → ImproverState → RoundNumbers → List ℕ
round_text bound p v told =
    first_text bound v.rounds ++ (round_line p v told ++ (gap_so_far bound v ++ codes "\n"))

-- how many changes there are, of patients and of nurses
unfoldable pub changes_line : Changes → List ℕ
changes_line c =
    decimal (c.patients + c.nurses) ++ (codes " changes: " ++ (decimal c.patients ++ (codes " patients, "
    ++ (decimal c.nurses ++ codes " nurses' shifts\n"))))

-- the cost of a timetable, where that keeps to all rules
abbrev pub cost_text : Draft → Timetable → List ℕ
cost_text I P =
    if feasible (bill_of I P) then signed_decimal (cost I.weights (bill_of I P)) else codes "none, rules are broken"

-- the cost of the start and of the best
abbrev pub costs_line : Draft → Timetable → Timetable → List ℕ
costs_line I O P = codes "cost before: " ++ (cost_text I O ++ (codes ", after: " ++ (cost_text I P ++ codes "\n")))

-- what is told of the changes where they weigh anything: against the start, how many there are, and the costs
abbrev pub changes_text : ℕ → Draft → Timetable → Timetable → List ℕ
changes_text keep I O P = if keep == 0 then [] else changes_line (counted I O P) ++ costs_line I O P

-- the report on the best, and its changes
abbrev pub end_text : ImproverState → List ℕ
end_text v =
    report v.instance.weights (bill_of v.instance v.kept) ++ changes_text v.settings.keep v.instance v.start v.kept

-- ---- what it comes to

-- A round leads a search from v to w, with workers that leave what they may. Its best keeps the start's choices before
-- the freeze day and those that are pinned, and is no worse than the start and than the best before it.
pub record IsRound (may_leave : LegState → ℕ → Timetable → Type 0) (t : SearchTask) (v : ImproverState)
    (o : OutcomeState) (w : ImproverState) : Type 0 where
  pub span : Span
  pub paced : IsNextSpan t.pace.length t.pace.rounds v span
  pub next : w ≡ led_to v span w.kept
  pub led : Leads may_leave v span w.kept
  pub follows : MayFollow (terms_of v) v.start w.kept
  pub no_worse : IsNoWorse (terms_of v) v.kept w.kept
  pub same : is_new v w ≡ false → w.kept ≡ v.kept
  pub numbers : RoundNumbers
  pub comes :
      o ≡ record { writes = best_writes (round_out t v w) w; text = round_text t.bound t.pace w numbers; status = Done }

-- none is feasible, and the best of what was met goes to the draft, where a file is named for that
abbrev pub unfound : SearchTask → ImproverState → OutcomeState
unfound t v = record { writes = best_writes t.draft v; text = none_found_text; status = NoneFound }

-- that OUT keeps a timetable of this cost
abbrev pub kept_line : List ℕ → Draft → Timetable → List ℕ
kept_line out I H =
    out ++ (codes " keeps the plan of cost " ++ (signed_decimal (cost I.weights (bill_of I H)) ++ codes "\n"))

-- a timetable that OUT has stays, where it is feasible, and the report is on that
abbrev pub stays : SearchTask → ImproverState → Option Timetable → OutcomeState
stays t v None = unfound t v
stays t v (Some H) =
    if feasible (bill_of v.instance H)
    then says Done (kept_line t.out v.instance H ++ report v.instance.weights (bill_of v.instance H))
    else unfound t v

-- What a search comes to once it is over: the report on the timetable that OUT has, the best or the one that stays; or that
-- none is feasible, and the draft.
abbrev pub searched : SearchTask → ImproverState → OutcomeState
searched t v =
    if goes_out t v
    then says Done (end_text v)
    else stays t v t.held

-- A search that is over comes to that: where attempts are given, all rounds are made, and by the clock at least one.
pub record IsSearched (t : SearchTask) (v : ImproverState) (o : OutcomeState) : Type 0 where
  pub over : least_rounds t.pace.length t.pace.rounds ≤ v.rounds
  pub comes : o ≡ searched t v

-- ---- what rounds leave

-- OUT has the solution of the best so far, once that goes there and a round is over; else each file has what it had
pub record HoldsBest (t : SearchTask) (v : ImproverState) (old new : Names) : Type 0 where
  pub found : 0 < v.rounds → goes_out t v ≡ true → IsWritten t.out (solution v.instance v.kept) old new
  pub none : goes_out t v ≡ false → Unchanged old new
  pub unsearched : v.rounds ≡ 0 → Unchanged old new
  pub others : OthersKept t.out old new
