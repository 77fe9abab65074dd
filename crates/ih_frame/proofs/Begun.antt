-- How a call ends that reads its files and then goes on in steps.
use Rattle.std.proofs.Common.{◌≡◌, ◌≤◌, ℕ, sym, subst, inl, inr, List, Option}
use Rattle.std.specs.Prelude.{◌⊎◌}
use Rattle.ih_shelf.specs.Outside.{IfTold, Names}
use Rattle.ih_inputs.specs.Reading.{InputFiles}
use Rattle.ih_endings.specs.declared.answer.Answer.{Answer}
use Rattle.ih_endings.specs.declared.status.Status.{Status}
use Rattle.ih_endings.specs.declared.status.Status.TheVariants.{OutOfMemory}
use Rattle.ih_endings.specs.Answers.{Answers, HasFileCause, IsConcluded}
use Rattle.ih_endings.specs.Ends.{Ends, Unchanged}
use Rattle.ih_endings.specs.Inputs.{EndsUnread}
use Rattle.ih_endings.specs.Texts.{memory_text}
use Rattle.ih_endings.proofs.Later.{ends-later, file-cause-from}
use Rattle.ih_endings.proofs.Saying.{answers-weaker, beside, ended, memory-ended}
use Rattle.ih_endings.proofs.Stopping.{unread-answerable, unread-memory}
use Rattle.ih_frame.specs.Outcomes.{OutcomeState}
use Rattle.ih_frame.specs.Steps.{BegunEnds, StepsEnds}

module _ {X : Type 0} (begins : X → Type 0) (steps_to : X → OutcomeState → X → Type 0) (ends_as : X → OutcomeState → Type 0) (count : ℕ) (r : InputFiles)
    (old new : Option Names) (received part : List ℕ → Type 0) where
  abbrev Begun : Status → List ℕ → Type 0
  Begun = BegunEnds begins steps_to ends_as count r old new

  module _ (same : IfTold Unchanged old new) (cause : Status → Type 0) where
    -- the files can't be had, and that was said
    pub unread-ended : (a : Answer) → Answers (EndsUnread old r) a → (status : Status) → cause a.status
        → IsConcluded a.status a.text.items received part status → Ends Begun cause received part status
    unread-ended a answers status why put =
        let unread : Status → List ℕ → Type 0 = λ s t. IfTold Unchanged old new × EndsUnread old r s t in
        ends-later unread Begun (λ t. t) cause cause received part received part (λ s t h. inl h) (λ s h. h) (λ t h. h) (λ t h. h) status
        (ended unread (beside (IfTold Unchanged old new) (EndsUnread old r) (unread-answerable old r)) cause received part a status
        (answers-weaker (EndsUnread old r) unread (λ s t h. (same, h)) a answers) why put)

    -- memory ran out before it began
    pub unbegun-ended : cause OutOfMemory → received memory_text ⊎ part memory_text → (status : Status) → status ≡ OutOfMemory → Ends Begun cause received part status
    unbegun-ended why said status is =
        subst (Ends Begun cause received part) (sym is) (memory-ended Begun cause received part (inl (same, unread-memory old r)) why said)

  -- it went on to its end, behind what was read
  pub begun-ended : (mid : Option Names) → mid ≡ old → (x : X) → begins x → (reads mid-reads reads' writes mid-writes writes' : ℕ) → reads ≤ mid-reads
      → writes ≤ mid-writes → (status : Status)
      → Ends (StepsEnds steps_to ends_as count x mid new) (HasFileCause mid-reads reads' mid-writes writes') received part status
      → Ends Begun (HasFileCause reads reads' writes writes') received part status
  begun-ended mid same x is reads mid-reads reads' writes mid-writes writes' le under status =
      ends-later (StepsEnds steps_to ends_as count x mid new) Begun (λ t. t) (HasFileCause mid-reads reads' mid-writes writes')
      (HasFileCause reads reads' writes writes') received part received part
      (λ s t h. inr (x, is, subst (λ (m : Option Names). StepsEnds steps_to ends_as count x m new s t) same h))
      (file-cause-from reads mid-reads reads' writes mid-writes writes' le under) (λ t h. h) (λ t h. h) status
