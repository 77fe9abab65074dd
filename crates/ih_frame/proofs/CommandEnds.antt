-- The ends of a call of a command: each may fail to be said, and at each memory may run out.
use Rattle.std.proofs.Common.{◌≡◌, ℕ, refl, ap, subst, sym, inl, inr, List, [], Option, Result, Ok, Err}
use Rattle.std.specs.Prelude.{◌≢◌, IfOk}
use Rattle.ih_shelf.specs.Outside.{Names}
use Rattle.ih_inputs.specs.Reading.{Given, HasGiven, InputFiles}
use Rattle.ih_endings.specs.declared.answer.Answer.{Answer}
use Rattle.ih_endings.specs.declared.status.Status.{Status}
use Rattle.ih_endings.specs.declared.status.Status.TheVariants.{OutOfMemory}
use Rattle.ih_endings.specs.Answers.{Answers, unsaid}
use Rattle.ih_endings.specs.Inputs.{EndsUnread}
use Rattle.ih_endings.specs.Texts.{memory_text}
use Rattle.ih_endings.proofs.Files.{told-same}
use Rattle.ih_endings.proofs.Saying.{IsAnswerable, answers-weaker}
use Rattle.ih_endings.proofs.Stopping.{unread-answerable, unread-memory}
use Rattle.ih_frame.specs.Ends.{CommandEnds, IsPerformed, MadeEnds}
use Rattle.ih_frame.specs.Outcomes.{IsLeft, OutcomeState, outcome_of}
use Rattle.ih_frame.specs.declared.outcome.Outcome.{Outcome}
use Rattle.ih_frame.proofs.Leaving.{left-answerable, left-memory}

-- ---- an outcome that was made, or not

made-memory : {E : Type 0} (made : Result Outcome E) (old new : Option Names) (status : Status) (text : List ℕ) → MadeEnds made old new status text
    → MadeEnds made old new OutOfMemory memory_text
made-memory (Ok o) old new status text h = left-memory (outcome_of o) old new status text h
made-memory (Err e) old new status text (kept, is, said) = (kept, refl, refl)

made-unsaid : {E : Type 0} (made : Result Outcome E) (old new : Option Names) (status : Status) (text : List ℕ) → text ≢ [] → MadeEnds made old new status text
    → MadeEnds made old new (unsaid status) text
made-unsaid (Ok o) old new status text some h = (left-answerable (outcome_of o) old new).unsaid status text some h
made-unsaid (Err e) old new status text some (kept, is, said) = (kept, ap unsaid is, said)

pub made-answerable : {E : Type 0} (made : Result Outcome E) (old new : Option Names) → IsAnswerable (MadeEnds made old new)
made-answerable made old new = record { unsaid = made-unsaid made old new; memory = made-memory made old new }

-- ---- a call of a command

module _ (comes_to : Given → OutcomeState → Type 0) (r : InputFiles) (old new : Option Names) where
  performed-at : (status status' : Status) (text text' : List ℕ) → ((o : OutcomeState) → IsLeft o old new status text → IsLeft o old new status' text')
      → IsPerformed comes_to r old new status text → IsPerformed comes_to r old new status' text'
  performed-at status status' text text' f p =
      record { given = p.given; read = p.read; outcome = p.outcome; comes = p.comes; left = f p.outcome p.left }

  command-unsaid : (status : Status) (text : List ℕ) → text ≢ [] → CommandEnds comes_to r old new status text → CommandEnds comes_to r old new (unsaid status) text
  command-unsaid status text some (inl (kept, unread)) = inl (kept, (unread-answerable old r).unsaid status text some unread)
  command-unsaid status text some (inr p) =
      inr (performed-at status (unsaid status) text text (λ o h. (left-answerable o old new).unsaid status text some h) p)

  pub command-memory : (status : Status) (text : List ℕ) → CommandEnds comes_to r old new status text → CommandEnds comes_to r old new OutOfMemory memory_text
  command-memory status text (inl (kept, unread)) = inl (kept, unread-memory old r)
  command-memory status text (inr p) = inr (performed-at status OutOfMemory text memory_text (λ o h. left-memory o old new status text h) p)

  pub command-answerable : IsAnswerable (CommandEnds comes_to r old new)
  command-answerable = record { unsaid = command-unsaid; memory = command-memory }

  -- the files can't be had
  pub unread-ends : new ≡ old → (a : Answer) → Answers (EndsUnread old r) a → Answers (CommandEnds comes_to r old new) a
  unread-ends kept a h =
      answers-weaker (EndsUnread old r) (CommandEnds comes_to r old new) (λ status text unread. inl (told-same old new kept, unread)) a h

  made-ends : {E : Type 0} (given : Given) → HasGiven old r given → (made : Result Outcome E) → IfOk made (λ o. comes_to given (outcome_of o))
      → (status : Status) (text : List ℕ) → MadeEnds made old new status text → CommandEnds comes_to r old new status text
  made-ends given read (Ok o) comes status text h =
      inr (record { given = given; read = read; outcome = outcome_of o; comes = comes; left = h })
  made-ends given read (Err e) comes status text (kept, is, said) =
      inl (kept, subst (λ s. EndsUnread old r s text) (sym is) (subst (EndsUnread old r OutOfMemory) (sym said) (unread-memory old r)))

  -- the files give this, and the command came to what was made of that
  pub performed-ends : {E : Type 0} (given : Given) → HasGiven old r given → (made : Result Outcome E) → IfOk made (λ o. comes_to given (outcome_of o)) → (a : Answer)
      → Answers (MadeEnds made old new) a → Answers (CommandEnds comes_to r old new) a
  performed-ends given read made comes a h =
      answers-weaker (MadeEnds made old new) (CommandEnds comes_to r old new) (made-ends given read made comes) a h
