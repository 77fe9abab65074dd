-- How calls end: each may fail to be said, at each memory may run out, and one whose files are accepted, and in which no
-- count rose, comes to its end.
use Rattle.std.proofs.Common.{◌≡◌, ℕ, refl, ap, inl, inr, Bool, true, false, List, Option, Some, None}
use Rattle.std.specs.Prelude.{◌⊎◌}
use Rattle.ih_commands.specs.Below.Arguments.{Text}
use Rattle.ih_commands.specs.Below.Endings.{AreAnswers, Done, HasCause, HasNoFault, IfTold, Infeasible, IsOnePutAtMost, Names, OutOfMemory, OutcomeState, Rose, Status, memory_text}
use Rattle.ih_endings.proofs.Files.{told-same}
use Rattle.ih_endings.proofs.Saying.{IsAnswerable, memory-ended, unsaid-by}
use Rattle.ih_endings.proofs.Stopping.{unread-memory}
use Rattle.ih_frame.proofs.Complete.{command-answered, no-fault, reached}
use Rattle.ih_frame.proofs.StepByStep.{one-within}
use Rattle.ih_commands.specs.Calls.Bound.{judged_status}
use Rattle.ih_commands.specs.Calls.{Call, IsAnswered, bound, carry, check, comes_to, improve, inputs_of, table, view, why}
use Rattle.ih_commands.specs.Ends.{CallEnds, HasFewPuts, HasFiles, IsComplete, IsUntouched, Leaves, NoCallEnds}
use Rattle.ih_optimizer.proofs.Answered.{improve-memory, improved}
use Rattle.ih_optimizer.specs.Pacing.{most_rounds}

-- ---- calls whose files are accepted

-- a status by a judgement
judged : (works : Bool) (status : Status) → status ≡ judged_status works → (status ≡ Done) ⊎ (status ≡ Infeasible) ⊎ (status ≡ OutOfMemory)
judged true status is = inl is
judged false status is = inr (inl is)

-- what a call of one outcome comes to, is an answer
answers : (call : Call) → AreAnswers (comes_to call) (IsAnswered call)
answers (improve c) = record { outcomes = λ g o none. absurd none; memory = inr (inr (inl refl)) }
answers (view v) = record { outcomes = λ g o is. inl (ap (λ (x : OutcomeState). x.status) is.page); memory = inr refl }
answers (bound b) = record { outcomes = λ g o is. judged _ o.status (ap (λ (x : OutcomeState). x.status) is.said); memory = inr (inr refl) }
answers (check c) = record { outcomes = λ g o is. judged _ o.status (ap (λ (x : OutcomeState). x.status) is); memory = inr (inr refl) }
answers (carry c) = record { outcomes = λ g o is. inl (ap (λ (x : OutcomeState). x.status) is.written); memory = inr refl }
answers (table t) = record { outcomes = λ g o is. inl (ap (λ (x : OutcomeState). x.status) is.written); memory = inr refl }
answers (why w) = record { outcomes = λ g o is. judged _ o.status (ap (λ (x : OutcomeState). x.status) is.said); memory = inr (inr refl) }

-- each end of a call that no fault ended, and whose files are accepted, is an answer
answered : (call : Call) (files : Names) (new : Option Names) → HasFiles call files → (status : Status) (text : List ℕ) → HasNoFault status
    → CallEnds call (Some files) new status text → IsAnswered call status
answered (improve c) files new (g, has) status text calm h = improved c files new g has status text calm h
answered call files new (g, has) status text calm h =
    command-answered (comes_to call) (inputs_of call) files new (IsAnswered call) (answers call) g has status text calm h

pub complete : (words : List Text) (call : Call) (old new : Option Names) (causes : Status → Type 0) (received part : List ℕ → Type 0) (reads reads' writes writes' puts puts' : ℕ) (status : Status)
    → Leaves words (Some call) old new causes received part status → HasCause reads reads' writes writes' puts puts' status
    → IsComplete (Some call) old (Rose reads reads') (Rose writes writes') (Rose puts puts') status
complete words call None new causes received part reads reads' writes writes' puts puts' status ends cause = tt
complete words call (Some files) new causes received part reads reads' writes writes' puts puts' status ends cause = λ has calm kept heard.
    reached (IsAnswered call) (CallEnds call (Some files) new) causes received part (answers call).memory (answered call files new has) status
    (no-fault reads reads' writes writes' puts puts' calm kept heard status cause) ends

-- ---- words that name no call

pub no_call-answerable : (words : List Text) → IsAnswerable (NoCallEnds words)
no_call-answerable words = record {
  unsaid = λ status text some h. unsaid-by (NoCallEnds words) text (λ help. help) (λ none. absurd none) status h;
  memory = λ status text h. refl;
}

-- memory may run out in any call before anything is done
call-memory : (call : Call) (files : Option Names) → CallEnds call files files OutOfMemory memory_text
call-memory (improve c) files = improve-memory c files
call-memory call files = inl (told-same files files refl, unread-memory files (inputs_of call))

-- whatever call the words name, and also where they name none
pub memory-leaves : (words : List Text) (call : Option Call) (files : Option Names) (cause : Status → Type 0) (received part : List ℕ → Type 0) → cause OutOfMemory
    → received memory_text ⊎ part memory_text → Leaves words call files files cause received part OutOfMemory
memory-leaves words None files cause received part caused h =
    (told-same files files refl, memory-ended (NoCallEnds words) cause received part refl caused h)
memory-leaves words (Some call) files cause received part caused h = memory-ended (CallEnds call files files) cause received part (call-memory call files) caused h

pub memory-complete : (call : Option Call) (old : Option Names) (read wrote put : Type 0) → IsComplete call old read wrote put OutOfMemory
memory-complete None old read wrote put = tt
memory-complete (Some call) None read wrote put = tt
memory-complete (Some call) (Some files) read wrote put = λ has calm kept heard. (answers call).memory

-- a shelf that nothing was asked of
pub untouched : {X : Type 0} (call : Option Call) (shelf : X) → IsUntouched call shelf shelf
untouched None shelf = refl
untouched (Some call) shelf = tt

-- one put is within those of any call
pub one-few : (call : Option Call) (old new : Option ℕ) → IfTold IsOnePutAtMost old new → HasFewPuts call old new
one-few (Some (improve c)) old new one = one-within (most_rounds c.pace.length c.pace.rounds) old new one
one-few call old new one = one
