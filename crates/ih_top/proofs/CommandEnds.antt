-- What the ends of the commands have in common: at each memory may run out before anything is done.
use Rattle.std.proofs.Common.{◌≡◌, refl, subst, inl, inr, List, ℕ, Option, Some, None}
use Rattle.std.specs.Prelude.{◌⊎◌, Result, Ok, Err, IfOk}
use Rattle.ih_top.specs.Below.Arguments.{Call, GenCall, advise, check, demo, gen}
use Rattle.ih_top.specs.Below.Endings.{Answers, Ends, IfTold, IsConcluded, IsLeft, IsSaid, MadeEnds, Names, OutOfMemory, Status, Unchanged, Usage, memory_text, outcome_of}
use Rattle.ih_endings.specs.declared.answer.Answer.{Answer}
use Rattle.ih_endings.proofs.Saying.{IsAnswerable, answers-weaker, beside, ended, memory-ended, said-answer, said-status, unsaid-by}
use Rattle.ih_endings.proofs.Stopping.{unread-memory}
use Rattle.ih_endings.proofs.Files.{told-same}
use Rattle.ih_frame.specs.declared.outcome.Outcome.{Outcome}
use Rattle.ih_top.specs.Demo.{DemoEnds}
use Rattle.ih_top.specs.Ends.{CallEnds, IsUntouched, Leaves, UsageEnds}
use Rattle.ih_top.specs.Commands.{GenEnds, generated_outcome, advise_inputs, check_inputs}
use Rattle.ih_top.specs.Texts.{usage_text}
use Rattle.ih_top.proofs.Leaving.{ends-weaker}

-- ---- gen

-- the instance was made, or memory ran out before
generated-ends : {E : Type 0} (g : GenCall) (made : Result Outcome E) (old new : Option Names) → IfOk made (λ o. outcome_of o ≡ generated_outcome g)
    → (status : Status) (text : List ℕ) → MadeEnds made old new status text → GenEnds g old new status text
generated-ends g (Ok o) old new is status text h = inr (subst (λ x. IsLeft x old new status text) is h)
generated-ends g (Err e) old new is status text h = inl h

pub generated-ended : {E : Type 0} (g : GenCall) (made : Result Outcome E) (old new : Option Names) → IfOk made (λ o. outcome_of o ≡ generated_outcome g)
    → (cause : Status → Type 0) (received part : List ℕ → Type 0) (status : Status) → Ends (MadeEnds made old new) cause received part status
    → Ends (GenEnds g old new) cause received part status
generated-ended g made old new is cause received part = ends-weaker (MadeEnds made old new) (GenEnds g old new) cause received part (generated-ends g made old new is)

-- ---- demo

demo-answerable : (number : ℕ) → IsAnswerable (DemoEnds number)
demo-answerable number = record {
  unsaid = λ status text some h. unsaid-by (DemoEnds number) text (λ shown. shown) (λ none. absurd none) status h;
  memory = λ status text h. refl;
}

-- what it has to say was put out, as far as that went, and no file is changed
pub demo-ended : (number : ℕ) (files : Option Names) (cause : Status → Type 0) (received part : List ℕ → Type 0) (a : Answer) (result : Status)
    → Answers (DemoEnds number) a → cause a.status → IsConcluded a.status a.text.items received part result
    → Ends (CallEnds (demo number) files files) cause received part result
demo-ended number files cause received part a result h why said =
    let kept : IfTold Unchanged files files = told-same files files refl in
    ended (CallEnds (demo number) files files) (beside (IfTold Unchanged files files) (DemoEnds number) (demo-answerable number)) cause received part a result
    (answers-weaker (DemoEnds number) (CallEnds (demo number) files files) (λ status text ends. (kept, ends)) a h) why said

-- ---- no call

usage-answerable : IsAnswerable UsageEnds
usage-answerable = record {
  unsaid = λ status text some h. unsaid-by UsageEnds text (λ none. absurd none) (λ none. absurd none) status h;
  memory = λ status text h. refl;
}

-- the usage was put out, as far as that went
pub usage-ended : (cause : Status → Type 0) (received part : List ℕ → Type 0) (a : Answer) (result : Status) → cause Usage → cause OutOfMemory
    → IsSaid Usage usage_text a → IsConcluded a.status a.text.items received part result → Ends UsageEnds cause received part result
usage-ended cause received part a result why memory said concluded =
    ended UsageEnds usage-answerable cause received part a result (said-answer UsageEnds usage-answerable Usage usage_text a refl said)
    (said-status cause Usage usage_text a why memory said) concluded

-- ---- lack of memory before anything is done

call-memory : (call : Call) (files : Option Names) → CallEnds call files files OutOfMemory memory_text
call-memory (check c) files = inl (told-same files files refl, unread-memory files (check_inputs c))
call-memory (advise a) files = inl (told-same files files refl, unread-memory files (advise_inputs a))
call-memory (gen g) files = inl (told-same files files refl, refl, refl)
call-memory (demo number) files = (told-same files files refl, refl)
call-memory call files = (inl (told-same files files refl), refl)

-- whatever call the words name, and also where they name none
pub memory-leaves : (call : Option Call) (files : Option Names) (cause : Status → Type 0) (received part : List ℕ → Type 0) → cause OutOfMemory
    → received memory_text ⊎ part memory_text → Leaves call files files cause received part OutOfMemory
memory-leaves None files cause received part why h = (told-same files files refl, memory-ended UsageEnds cause received part refl why h)
memory-leaves (Some call) files cause received part why h = memory-ended (CallEnds call files files) cause received part (call-memory call files) why h

-- a shelf that nothing was asked of
pub untouched : {X : Type 0} (call : Option Call) (shelf : X) → IsUntouched call shelf shelf
untouched None shelf = refl
untouched (Some (demo number)) shelf = refl
untouched (Some call) shelf = tt
