-- The files that each command reads before anything else, and what the calls come to that don't search: check, advise
-- and gen.
use Rattle.std.specs.Prelude.{Some, ◌≡◌, Bool, true, false, ℕ, ◌⊎◌, List, [], Option}
use Rattle.ih_top.specs.Below.Wards.{bill_of, feasible, report}
use Rattle.ih_top.specs.Below.Arguments.{AdviseCall, CheckCall, GenCall, ReplayCall, SolveCall}
use Rattle.ih_top.specs.Below.Endings.{Done, Given, IfTold, Infeasible, InputFiles, IsLeft, Names, Out, OutOfMemory, OutcomeState, Status, Unchanged, memory_text, says, two_files, writes_one}
use Rattle.ih_advise.specs.Advising.{advice}
use Rattle.ih_advise.specs.Texts.{advice_text}
use Rattle.ih_gen.specs.Generated.{generated}

abbrev pub solve_inputs : SolveCall → InputFiles
solve_inputs s = two_files s.instance s.start.file

-- the journal comes after the instance and the start
abbrev pub replay_inputs : ReplayCall → InputFiles
replay_inputs r = record (two_files r.instance r.start.file) { journal = Some r.journal }

abbrev pub check_inputs : CheckCall → InputFiles
check_inputs c = two_files c.instance (Some c.solution)

abbrev pub advise_inputs : AdviseCall → InputFiles
advise_inputs a = two_files a.instance (Some a.solution)

-- the status by whether no hard rule is broken
abbrev pub checked_status : Bool → Status
checked_status true = Done
checked_status false = Infeasible

-- the report on the timetable that the files give is said, and nothing is written
abbrev pub IsChecked : Given → OutcomeState → Type 0
IsChecked g o =
    o ≡ says (checked_status (feasible (bill_of g.instance g.plan))) (report g.instance.weights (bill_of g.instance g.plan))

-- The advice on the timetable that the files give is said, and nothing is written. Whether the timetable breaks a hard
-- rule makes no difference, nor does the number of workers.
abbrev pub IsAdvised : AdviseCall → Given → OutcomeState → Type 0
IsAdvised a g o = o ≡ says Done (advice_text (advice g.instance a.hard g.plan))

-- the instance is written, and nothing is said
abbrev pub generated_outcome : GenCall → OutcomeState
generated_outcome g = writes_one Out g.out (generated g.number) []

-- that is left, or memory ran out as the instance was made
abbrev pub GenEnds : GenCall → Option Names → Option Names → Status → List ℕ → Type 0
GenEnds g old new status text =
    (IfTold Unchanged old new × (status ≡ OutOfMemory) × (text ≡ memory_text))
    ⊎ IsLeft (generated_outcome g) old new status text
