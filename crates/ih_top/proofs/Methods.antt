-- How a call that searches ends, by its method.
use Rattle.std.proofs.Common.{ℕ, refl, subst, inl, inr, List, Option}
use Rattle.std.specs.Prelude.{◌≢◌}
use Rattle.ih_top.specs.Below.Arguments.{SolveCall}
use Rattle.ih_top.specs.Below.Endings.{CommandEnds, Ends, EndsUnread, IfTold, IsLeft, Names, Status, Unchanged}
use Rattle.ih_top.specs.Below.Searches.{Base}
use Rattle.ih_top.specs.declared.output.Output.{Output}
use Rattle.ih_top.specs.declared.searching.Method.{Method}
use Rattle.ih_top.specs.declared.searching.Method.TheVariants.{Moves, Chains, Rounds}
use Rattle.ih_top.specs.Searches.{of_chains, HasBase, of_moves}
use Rattle.ih_top.specs.Commands.{solve_inputs}
use Rattle.ih_top.specs.Methods.{IsMade, IsSearched, MethodEnds}
use Rattle.ih_top.specs.Outputs.{base_from, search_outcome}
use Rattle.ih_top.specs.Rounds.{of_rounds}
use Rattle.ih_top.proofs.Leaving.{ends-weaker}
use Rattle.ih_top.proofs.Writing.{search-left, unread-search}

-- what is left of what was made
made-left : (method : Method) (s : SolveCall) (o : Output) (old new : Option Names) (b : Base) → HasBase old s b → IsMade method b o → s.out ≢ s.journal
    → (status : Status) (text : List ℕ) → IsLeft (search_outcome s o.journal.items o.best) old new status text → MethodEnds method s old new status text
made-left Moves s o old new b given is differ = search-left of_moves s old new differ o b given is o.best is.best
made-left (Chains each) s o old new b given is differ = search-left (of_chains each) s old new differ o b given is o.best is.best
made-left (Rounds count) s o old new b given is differ = search-left (of_rounds count) s old new differ o b given is o.best is.best

-- a call that comes no further than its files
unread-by : (method : Method) (s : SolveCall) (old new : Option Names) → IfTold Unchanged old new → (status : Status) (text : List ℕ)
    → EndsUnread old (solve_inputs s) status text → MethodEnds method s old new status text
unread-by Moves s = unread-search of_moves s
unread-by (Chains each) s = unread-search (of_chains each) s
unread-by (Rounds count) s = unread-search (of_rounds count) s

searched-ends : (method : Method) (s : SolveCall) → s.out ≢ s.journal → (old new : Option Names) (status : Status) (text : List ℕ)
    → CommandEnds (IsSearched method s) (solve_inputs s) old new status text → MethodEnds method s old new status text
searched-ends method s differ old new status text (inl (kept, unread)) = unread-by method s old new kept status text unread
searched-ends method s differ old new status text (inr p) =
    made-left method s p.comes.output old new (base_from s p.given)
    (record {
      start = record { plan = p.given.plan; inputs = record { instance = p.read.inputs.instance; plan = p.read.inputs.plan }; started = record { instance = refl; start = refl; freeze = refl } };
      options = refl;
    }) p.comes.made differ status text (subst (λ o. IsLeft o old new status text) p.comes.left p.left)

-- the same of a call that was said
pub searched-ended : (method : Method) (s : SolveCall) → s.out ≢ s.journal → (old new : Option Names) (cause : Status → Type 0) (received part : List ℕ → Type 0) (status : Status)
    → Ends (CommandEnds (IsSearched method s) (solve_inputs s) old new) cause received part status → Ends (MethodEnds method s old new) cause received part status
searched-ended method s differ old new cause received part =
    ends-weaker (CommandEnds (IsSearched method s) (solve_inputs s) old new) (MethodEnds method s old new) cause received part (searched-ends method s differ old new)
