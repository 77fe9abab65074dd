-- A call whose files are accepted, and in which no count rose, comes to its end.
use Rattle.std.proofs.Common.{◌≡◌, ℕ, refl, ap, inl, inr, Bool, true, false, List, Option, Some, None}
use Rattle.std.specs.Prelude.{◌⊎◌}
use Rattle.ih_top.specs.Below.Wards.{JournalRefusal, bill_of, feasible}
use Rattle.ih_top.specs.Below.Arguments.{AdviseCall, Call, CheckCall, GenCall, ReplayCall, advise, chain, check, demo, gen, replay, rounds, salvage, solve}
use Rattle.ih_top.specs.Below.Endings.{AreAnswers, Done, EndsUnread, Given, HasCause, HasGiven, HasNoFault, InputFiles, Names, NoneFound, OutOfMemory, OutcomeState, Rose, Status, WriteFault}
use Rattle.ih_top.specs.Below.Searches.{Base, Entry, Tried}
use Rattle.ih_frame.proofs.Complete.{accepted, command-answered, no-fault, reached}
use Rattle.ih_top.specs.Commands.{advise_inputs, check_inputs, solve_inputs, GenEnds, generated_outcome, IsAdvised, IsChecked, checked_status}
use Rattle.ih_top.specs.Searches.{of_chains, of_moves}
use Rattle.ih_top.specs.Rounds.{of_rounds}
use Rattle.ih_top.specs.Texts.{done_text, salvaged_text}
use Rattle.ih_top.specs.JournalEnds.{IsRefused, JournalEnds}
use Rattle.ih_top.specs.JournalFiles.{HasRead, JournalRead, IsHeadless}
use Rattle.ih_top.specs.JournalUses.{IsRefusedJournal, IsReplay, IsSalvage}
use Rattle.ih_top.specs.Ends.{CallEnds, Leaves, HasFiles, IsAnswered, IsComplete}
use Rattle.ih_top.specs.Demo.{DemoEnds}
use Rattle.ih_top.proofs.Accepted.{journal-accepted, not-headless, not-refused}
use Rattle.ih_top.proofs.FaultlessEnds.{IsFaultless, journal-faultless, search-faultless}
use Rattle.ih_top.proofs.Leaving.{left-by}

-- ---- the commands

abbrev Searched : Status → Type 0
Searched status = (status ≡ Done) ⊎ (status ≡ NoneFound) ⊎ (status ≡ OutOfMemory)

module _ (files : Names) where
  -- of searches, whatever they leave
  searched : {done none kept : Type 0} (r : InputFiles) (g : Given) → HasGiven (Some files) r g → (status : Status) (text : List ℕ)
      → HasNoFault status → IsFaultless done none (kept × EndsUnread (Some files) r status text) status → Searched status
  searched r g has status text calm (inl memory) = inr (inr memory)
  searched r g has status text calm (inr (inl done)) = inl done.0
  searched r g has status text calm (inr (inr (inl none))) = inr (inl none.0)
  searched r g has status text calm (inr (inr (inr other))) = inr (inr (accepted files r g has status text calm other.1))

  -- of replays and salvages
  replayed : (taken : JournalRead → Base → List Entry → Type 0) (refused : JournalRead → JournalRefusal → Type 0) (said : Base → List Tried → ℕ → List ℕ)
      (r : ReplayCall) (new : Option Names) (x : JournalRead) → HasRead (Some files) r x → ((e : JournalRefusal) → IsRefused refused r (Some files) e → ⊥)
      → (status : Status) (text : List ℕ) → HasNoFault status → JournalEnds taken refused said r (Some files) new status text → Searched status
  replayed taken refused said r new x has never status text calm h = elim (journal-faultless taken refused said r (Some files) new status text calm h) [
    | inl memory ↦ inr (inr memory)
    | inr (inl done) ↦ inl done.0
    | inr (inr (inl none)) ↦ inr (inl none.0)
    | inr (inr (inr (inl refused))) ↦ absurd (never refused.refusal refused.why)
    | inr (inr (inr (inr unread))) ↦ inr (inr (journal-accepted files r x has status text calm unread))
  ]

check-answers : (c : CheckCall) → AreAnswers IsChecked (IsAnswered (check c))
check-answers c = record { outcomes = λ g o is. by_case (feasible (bill_of g.instance g.plan)) o.status (ap (λ (x : OutcomeState). x.status) is); memory = inr (inr refl) }
  where
    by_case : (whole : Bool) (status : Status) → status ≡ checked_status whole → IsAnswered (check c) status
    by_case true status is = inl is
    by_case false status is = inr (inl is)

advise-answers : (a : AdviseCall) → AreAnswers (IsAdvised a) (IsAnswered (advise a))
advise-answers a = record { outcomes = λ g o is. inl (ap (λ (x : OutcomeState). x.status) is); memory = inr refl }

-- with no fault what is left is the whole outcome, or memory ran out
generated : (g : GenCall) (old new : Option Names) (status : Status) (text : List ℕ) → HasNoFault status → GenEnds g old new status text
    → IsAnswered (gen g) status
generated g old new status text calm (inl lack) = inr lack.1
generated g old new status text calm (inr h) =
    left-by (generated_outcome g) old new (λ s t. HasNoFault s → IsAnswered (gen g) s) (λ told quiet. inl refl) (λ told quiet. absurd quiet)
    (λ w one at quiet. absurd quiet) (λ told quiet. inr refl) status text h calm

shown : (number : ℕ) (status : Status) (text : List ℕ) → HasNoFault status → DemoEnds number status text → IsAnswered (demo number) status
shown number Done text calm h = inl refl
shown number NoneFound text calm h = inr (inl refl)
shown number (WriteFault role) text calm h = absurd calm
shown number OutOfMemory text calm h = inr (inr refl)
shown number status text calm h = absurd h

-- ---- any command

-- each end of a call that no fault ended, and whose files are accepted, is an answer
answered : (call : Call) (files : Names) (new : Option Names) → HasFiles call files → (status : Status) (text : List ℕ) → HasNoFault status
    → CallEnds call (Some files) new status text → IsAnswered call status
answered (solve s) files new (g, has) status text calm h =
    searched files (solve_inputs s) g has status text calm (search-faultless of_moves s (Some files) new status text calm h)
answered (chain c) files new (g, has) status text calm h =
    searched files (solve_inputs c.search) g has status text calm (search-faultless (of_chains c.number) c.search (Some files) new status text calm h)
answered (rounds r) files new (g, has) status text calm h =
    searched files (solve_inputs r.search) g has status text calm (search-faultless (of_rounds r.number) r.search (Some files) new status text calm h)
answered (replay r) files new (x, b, H, has, headed, full) status text calm h =
    replayed files (IsReplay r.start) (IsRefusedJournal r.start) done_text r new x has (not-refused files r x has b H headed full) status text calm h
answered (salvage r) files new (x, b, lines, has, headed) status text calm h =
    replayed files (IsSalvage r.start) IsHeadless salvaged_text r new x has (not-headless files r x has b lines headed) status text calm h
answered (check c) files new (g, has) status text calm h =
    command-answered IsChecked (check_inputs c) files new (IsAnswered (check c)) (check-answers c) g has status text calm h
answered (advise a) files new (g, has) status text calm h =
    command-answered (IsAdvised a) (advise_inputs a) files new (IsAnswered (advise a)) (advise-answers a) g has status text calm h
answered (gen g) files new has status text calm h = generated g (Some files) new status text calm h
answered (demo number) files new has status text calm h = shown number status text calm h.1

memory-answered : (call : Call) → IsAnswered call OutOfMemory
memory-answered (advise a) = inr refl
memory-answered (gen g) = inr refl
memory-answered call = inr (inr refl)

pub complete : (call : Call) (old new : Option Names) (why : Status → Type 0) (received part : List ℕ → Type 0) (reads reads' writes writes' puts puts' : ℕ) (status : Status)
    → Leaves (Some call) old new why received part status → HasCause reads reads' writes writes' puts puts' status
    → IsComplete (Some call) old (Rose reads reads') (Rose writes writes') (Rose puts puts') status
complete call None new why received part reads reads' writes writes' puts puts' status ends cause = tt
complete call (Some files) new why received part reads reads' writes writes' puts puts' status ends cause = λ has calm kept heard.
    reached (IsAnswered call) (CallEnds call (Some files) new) why received part (memory-answered call) (answered call files new has) status
    (no-fault reads reads' writes writes' puts puts' calm kept heard status cause) ends
