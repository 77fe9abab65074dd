-- A call whose files are accepted, and in which no count rose, comes to its end.
use Rattle.std.proofs.Common.{◌≡◌, ◌∙◌, ℕ, refl, sym, subst, arith, inl, inr, List, length, ap, Option, Some, None}
use Rattle.std.specs.Prelude.{Result, Ok, Err}
use Rattle.ih_tables.specs.declared.drafts.Draft.{Draft}
use Rattle.ih_tables.specs.declared.refusals.Refusal.{Refusal}
use Rattle.ih_plan.specs.Timetable.{Timetable}
use Rattle.ih_shelf.specs.Outside.{Names, Rose}
use Rattle.ih_inputs.specs.declared.error.InputError.{InputError}
use Rattle.ih_inputs.specs.declared.error.InputError.TheVariants.{ReadFault as Unreadable, TooLong as Long, InstanceRefused as NoInstance, NextRefused as NoNext, OlderRefused as NoOlder, SolutionRefused as NoSolution, OutOfMemory as NoRoom}
use Rattle.ih_inputs.specs.declared.error.InputRole.TheVariants.{Instance as InstanceInput, Journal as JournalInput, Next as NextInput, Older as OlderInput, Solution as SolutionInput}
use Rattle.ih_inputs.specs.Reading.{Given, HasBytes, HasGiven, HasInstance, HasJournal, HasNext, HasOlder, HasPlan, HasSolution, InputFiles, IsNext, IsOlderNext, IsUnread}
use Rattle.ih_endings.specs.declared.status.Status.{Status}
use Rattle.ih_endings.specs.declared.status.Status.TheVariants.{Done, Infeasible, ReadFault, WriteFault, OutOfMemory}
use Rattle.ih_endings.specs.Answers.{unsaid}
use Rattle.ih_endings.specs.Ends.{Ends, HasCause}
use Rattle.ih_endings.specs.Inputs.{EndsUnread, unread_status}
use Rattle.ih_frame.specs.Ends.{AreAnswers, CommandEnds, HasNoFault}
use Rattle.ih_frame.specs.Outcomes.{IsLeft, IsStatusOf, IsStopped, OutcomeState, WritingState}
use Rattle.ih_frame.specs.Steps.{EndsFrom, StepsEnds}

-- ---- the status

module _ (reads reads' writes writes' puts puts' : ℕ) (calm : (Rose reads reads' → ⊥)) (kept : (Rose writes writes' → ⊥)) (heard : (Rose puts puts' → ⊥)) where
  -- where no count rose there is no fault
  pub no-fault : (status : Status) → HasCause reads reads' writes writes' puts puts' status → HasNoFault status
  no-fault (ReadFault role) cause = calm cause
  no-fault (WriteFault None) cause = heard cause
  no-fault (WriteFault (Some role)) cause = kept cause
  no-fault status cause = tt

-- what holds of each end of a family, and where memory runs out, holds of the status that a call of it ends in
pub reached : (answer : Status → Type 0) (ends : Status → List ℕ → Type 0) (why : Status → Type 0) (received part : List ℕ → Type 0) → answer OutOfMemory
    → ((status : Status) (text : List ℕ) → HasNoFault status → ends status text → answer status)
    → (status : Status) → HasNoFault status → Ends ends why received part status → answer status
reached answer ends why received part memory f OutOfMemory calm h = memory
reached answer ends why received part memory f status calm (text, h, g) = f status text calm h

-- ---- files that are accepted

not-both : {A : Type 0} (r : Result A Refusal) (x : A) (e : Refusal) → r ≡ Ok x → r ≡ Err e → ⊥
not-both r x e ok err = let clash : Ok x ≡ Err e = sym ok ∙ err in cc

module _ (files : Names) (r : InputFiles) (g : Given) (has : HasGiven (Some files) r g) where
  -- an instance is read from its file in one way
  same-instance : (J : Draft) → HasInstance r.instance J files → g.instance ≡ J
  same-instance J one = let same : Ok g.instance ≡ Ok J = sym has.inputs.instance.read ∙ one.read in cc

  -- a file for the timetable gives it
  first-given : (J : Draft) (name : List ℕ) → IsNext (Some files) r J name → HasSolution name J g.plan files
  first-given J name next =
      subst (λ (X : Draft). HasSolution name X g.plan files) (same-instance J next.instance)
      (subst (λ o. HasPlan (Some files) o g.instance g.plan) next.named has.inputs.plan)

  -- and so does one for an older timetable
  older-given : (J : Draft) (name : List ℕ) → IsOlderNext (Some files) r J name → (O : Timetable) × HasSolution name J O files
  older-given J name next = by-older g.older (subst (λ o. HasOlder (Some files) o g.instance g.older) next.named has.older)
    where
      by-older : (older : Option Timetable) → HasOlder (Some files) (Some name) g.instance older → (O : Timetable) × HasSolution name J O files
      by-older None none = absurd none
      by-older (Some O) one =
          (O, subst (λ (X : Draft). HasSolution name X O files) (same-instance J next.inputs.instance) one)

  -- and one for a journal its bytes
  journal-given : (name : List ℕ) → r.journal ≡ Some name → (bytes : List ℕ) × HasBytes name bytes files
  journal-given name named = by-journal g.journal (subst (λ o. HasJournal (Some files) o g.journal) named has.journal)
    where
      by-journal : (journal : Option (List ℕ)) → HasJournal (Some files) (Some name) journal → (bytes : List ℕ) × HasBytes name bytes files
      by-journal None none = absurd none
      by-journal (Some bytes) one = (bytes, one)

  -- and one for the instance that comes next its data
  next-given : (name : List ℕ) → r.next ≡ Some name → (N : Draft) × HasInstance name N files
  next-given name named = by-next g.next (subst (λ o. HasNext (Some files) o g.next) named has.next)
    where
      by-next : (next : Option Draft) → HasNext (Some files) (Some name) next → (N : Draft) × HasInstance name N files
      by-next None none = absurd none
      by-next (Some N) one = (N, one)

  -- with no fault, only lack of memory stops the reading
  by-error : (e : InputError) → HasNoFault (unread_status e) → IsUnread (Some files) r e → unread_status e ≡ OutOfMemory
  by-error (Unreadable role) calm h = absurd calm
  by-error (Long InstanceInput) calm h = absurd (let short = has.inputs.instance.short in let long = h in omega arith)
  by-error (Long SolutionInput) calm (J, name, next, long) = absurd (let short = (first-given J name next).short in omega arith)
  by-error (Long OlderInput) calm (J, name, next, long) = absurd (let short = (older-given J name next).1.short in omega arith)
  by-error (Long JournalInput) calm (name, next, long) =
      let one = journal-given name next.named in
      absurd (let short = one.1.short in let held = ap length one.1.held in omega (arith, short, long, held))
  by-error (NoInstance x) calm h = absurd (not-both _ g.instance x.refusal has.inputs.instance.read h.read)
  by-error (NoSolution x) calm (J, name, next, refused) = absurd (not-both _ g.plan x.refusal (first-given J name next).read refused.read)
  by-error (NoOlder x) calm (J, name, next, refused) =
      let one = older-given J name next in
      absurd (not-both _ one.0 x.refusal one.1.read refused.read)
  by-error (Long NextInput) calm (name, last, long) =
      let one = next-given name last.named in
      absurd (let short = one.1.short in omega (arith, short, long))
  by-error (NoNext x) calm (name, last, refused) =
      let one = next-given name last.named in
      absurd (not-both _ one.0 x.refusal one.1.read refused.read)
  by-error NoRoom calm h = refl

  pub accepted : (status : Status) (text : List ℕ) → HasNoFault status → EndsUnread (Some files) r status text → status ≡ OutOfMemory
  accepted status text calm (e, is, said, why) = is ∙ by-error e (subst HasNoFault is calm) why

-- ---- what a command comes to

-- a status that says no fault is the outcome's own
own-status : (answers : Status → Type 0) (o : OutcomeState) (status : Status) → HasNoFault status → answers o.status → IsStatusOf o status → answers status
own-status answers o status calm h (inl same) = subst answers (sym same) h
own-status answers o status calm h (inr (some, same)) = by-status o.status same h (subst HasNoFault same calm)
  where
    by-status : (own : Status) → status ≡ unsaid own → answers own → HasNoFault (unsaid own) → answers status
    by-status Done is h calm = absurd calm
    by-status Infeasible is h calm = absurd calm
    by-status own is h calm = subst answers (sym is) h

stopped-status : (answers : Status → Type 0) (writes : List WritingState) (old new : Option Names) (status : Status) (text : List ℕ) → HasNoFault status → answers OutOfMemory
    → IsStopped writes old new status text → answers status
stopped-status answers writes old new (WriteFault (Some role)) text calm memory h = absurd calm
stopped-status answers writes old new OutOfMemory text calm memory h = memory
stopped-status answers writes old new status text calm memory h = absurd h

-- what is left of an outcome whose status is an answer
left-status : (answers : Status → Type 0) → answers OutOfMemory → (o : OutcomeState) (old new : Option Names) (status : Status) (text : List ℕ) → HasNoFault status
    → answers o.status → IsLeft o old new status text → answers status
left-status answers memory o old new status text calm h (inl whole) = own-status answers o status calm h whole.1
left-status answers memory o old new status text calm h (inr stop) = stopped-status answers o.writes old new status text calm memory stop

-- each end of a call that no fault ended, and whose files are accepted, is an answer
pub command-answered : (comes_to : Given → OutcomeState → Type 0) (r : InputFiles) (files : Names) (new : Option Names) (answers : Status → Type 0)
    → AreAnswers comes_to answers → (g : Given) → HasGiven (Some files) r g → (status : Status) (text : List ℕ) → HasNoFault status
    → CommandEnds comes_to r (Some files) new status text → answers status
command-answered comes_to r files new answers are g has status text calm (inl (kept, unread)) =
    subst answers (sym (accepted files r g has status text calm unread)) are.memory
command-answered comes_to r files new answers are g has status text calm (inr p) =
    left-status answers are.memory p.outcome (Some files) new status text calm (are.outcomes p.given p.outcome p.comes) p.left

-- and so is each end of a call that goes on in steps, each of which has an answer
pub steps-answered : {X : Type 0} (steps_to : X → OutcomeState → X → Type 0) (ends_as : X → OutcomeState → Type 0) (count : ℕ) (x : X) (old new : Option Names)
    (answers : Status → Type 0) → ((y : X) (o : OutcomeState) (z : X) → steps_to y o z → answers o.status)
    → ((y : X) (o : OutcomeState) → ends_as y o → answers o.status) → answers OutOfMemory → (status : Status) (text : List ℕ) → HasNoFault status
    → StepsEnds steps_to ends_as count x old new status text → answers status
steps-answered {X} steps_to ends_as count x old new answers steps ends memory status text calm e = by_end e.ends
  where
    by_end : EndsFrom steps_to ends_as e.taken.now e.mid new status e.rest → answers status
    by_end (inl (kept, is, said)) = subst answers (sym is) memory
    by_end (inr (inl (apart, (o, z, step, left)))) =
        left-status answers memory o e.mid new status e.rest calm (steps e.taken.now o z step) left
    by_end (inr (inr (o, comes, left))) = left-status answers memory o e.mid new status e.rest calm (ends e.taken.now o comes) left
