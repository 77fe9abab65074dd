-- By what steps a call searches: which options that asks for, what it makes, and how the call ends. Also the calls whose
-- work passes a gate: those and advise.
use Rattle.std.specs.Prelude.{◌≡◌, ℕ, ◌≤◌, ◌*◌, List, Option}
use Rattle.ih_top.specs.Below.Arguments.{IsLawfulAdvise, SolveCall, advise_call, solve_call}
use Rattle.ih_top.specs.Below.Endings.{Given, InputFiles, Names, OutcomeState, Status}
use Rattle.ih_top.specs.Below.Searches.{Base, IsLawful, MAX_ENTRIES, Options, most_entries}
use Rattle.ih_top.specs.declared.output.Output.{Output}
use Rattle.ih_top.specs.declared.searching.Method.{Method}
use Rattle.ih_top.specs.declared.searching.Method.TheVariants.{Moves, Chains, Rounds}
use Rattle.ih_top.specs.Searches.{of_chains, SearchEnds, of_moves}
use Rattle.ih_top.specs.Outputs.{IsOutput, base_from, search_outcome}
use Rattle.ih_top.specs.Rounds.{of_rounds}
use Rattle.ih_top.specs.declared.gated.Gated.{Gated}
use Rattle.ih_top.specs.declared.gated.Gated.TheVariants.{Advise, Search}
use Rattle.ih_top.specs.Commands.{IsAdvised, advise_inputs, solve_inputs}

-- chains and rounds try nothing again and freeze nothing, and all chains together have at most a million moves
abbrev pub IsLawfulFor : Method → Options → ℕ → Type 0
IsLawfulFor Moves o freeze = Unit {0}
IsLawfulFor (Chains each) o freeze =
    (o.retries ≡ 0) × (freeze ≡ 0) × (1 ≤ each) × (each ≤ 8) × (most_entries o * each ≤ MAX_ENTRIES)
IsLawfulFor (Rounds count) o freeze = (o.retries ≡ 0) × (freeze ≡ 0)

-- what a search makes
abbrev pub IsMade : Method → Base → Output → Type 0
IsMade Moves b o = IsOutput of_moves b o
IsMade (Chains each) b o = IsOutput (of_chains each) b o
IsMade (Rounds count) b o = IsOutput (of_rounds count) b o

-- what a call comes to that searches so: what its search makes is written and said
pub record IsSearched (method : Method) (s : SolveCall) (g : Given) (o : OutcomeState) : Type 0 where
  pub output : Output
  pub made : IsMade method (base_from s g) output
  pub left : o ≡ search_outcome s output.journal.items output.best

-- how the call ends
abbrev pub MethodEnds : Method → SolveCall → Option Names → Option Names → Status → List ℕ → Type 0
MethodEnds Moves s old new status text = SearchEnds of_moves s old new status text
MethodEnds (Chains each) s old new status text = SearchEnds (of_chains each) s old new status text
MethodEnds (Rounds count) s old new status text = SearchEnds (of_rounds count) s old new status text

abbrev pub IsLawfulGated : Gated → Type 0
IsLawfulGated (Search method call) =
    IsLawful call.now.options × IsLawfulFor method call.now.options call.now.start.freeze
IsLawfulGated (Advise call) = IsLawfulAdvise call.now

abbrev pub gated_inputs : Gated → InputFiles
gated_inputs (Search method call) = solve_inputs (solve_call call.now)
gated_inputs (Advise call) = advise_inputs (advise_call call.now)

abbrev pub comes_to : Gated → Given → OutcomeState → Type 0
comes_to (Search method call) = IsSearched method (solve_call call.now)
comes_to (Advise call) = IsAdvised (advise_call call.now)
