-- Calls that come no further than their files.
use Rattle.std.proofs.Common.{◌≡◌, ◌∙◌, ℕ, refl, sym, ap, subst, inl, inr, List, [], Option, Some}
use Rattle.std.specs.Prelude.{unwrap_or}
use Rattle.ih_shelf.specs.Outside.{Names}
use Rattle.ih_shelf.specs.declared.outside.Shelf.{Ghosts as ShelfGhosts}
use Rattle.ih_inputs.specs.Reading.{HasReadCause, IsUnread, InputFiles, name_in}
use Rattle.ih_endings.specs.Texts.{memory_text}
use Rattle.ih_inputs.specs.declared.error.InputRole.TheVariants.{Instance as InstanceInput, Journal as JournalInput, Next as NextInput, Older as OlderInput, Solution as SolutionInput}
use Rattle.ih_inputs.specs.declared.error.InputError.{InputError}
use Rattle.ih_inputs.specs.declared.error.InputError.TheVariants.{ReadFault as Unreadable, TooLong as Long, InstanceRefused as NoInstance, NextRefused as NoNext, OlderRefused as NoOlder, SolutionRefused as NoSolution, OutOfMemory as NoRoom}
use Rattle.ih_inputs.specs.declared.error.Refused.{Refused}
use Rattle.ih_endings.specs.declared.answer.Answer.{Answer}
use Rattle.ih_endings.specs.declared.status.Role.TheVariants.{Out}
use Rattle.ih_endings.specs.declared.status.Status.{Status}
use Rattle.ih_endings.specs.declared.status.Status.TheVariants.{Done, Usage, ReadFault, InstanceRefused, StartRefused, NoneFound, WriteFault, OutOfMemory, JournalRefused, Infeasible, TooLong}
use Rattle.ih_endings.specs.Answers.{Answers, HasShelfCause, IsSaid, IsSaidSo}
use Rattle.ih_endings.specs.Inputs.{EndsUnread, HasFailedRead, IsUnreadInputs, SaysRemedy, SaysUnread, role_in, unread_status}
use Rattle.ih_endings.proofs.Saying.{IsAnswerable, unsaid-by}

-- ---- their statuses

-- the statuses that say why an instance or a timetable can't be had
abbrev pub IsUnreadStatus : Status → Type 0
IsUnreadStatus Done = ⊥
IsUnreadStatus Usage = ⊥
IsUnreadStatus (ReadFault Out) = ⊥
IsUnreadStatus NoneFound = ⊥
IsUnreadStatus (WriteFault role) = ⊥
IsUnreadStatus (JournalRefused e) = ⊥
IsUnreadStatus Infeasible = ⊥
IsUnreadStatus (TooLong Out) = ⊥
IsUnreadStatus status = Unit {0}

error-status : (e : InputError) → IsUnreadStatus (unread_status e)
error-status (Unreadable InstanceInput) = tt
error-status (Unreadable SolutionInput) = tt
error-status (Unreadable OlderInput) = tt
error-status (Unreadable JournalInput) = tt
error-status (Unreadable NextInput) = tt
error-status (Long InstanceInput) = tt
error-status (Long SolutionInput) = tt
error-status (Long OlderInput) = tt
error-status (Long JournalInput) = tt
error-status (Long NextInput) = tt
error-status (NoInstance x) = tt
error-status (NoSolution x) = tt
error-status (NoOlder x) = tt
error-status (NoNext x) = tt
error-status NoRoom = tt

-- the name of a timetable's file
pub named : (r : InputFiles) (name : List ℕ) → r.solution ≡ Some name → name_in r SolutionInput ≡ name
named r name is = ap (λ (o : Option (List ℕ)). unwrap_or o []) is

module _ (files : Option Names) (r : InputFiles) where
  pub unread-only : (status : Status) (text : List ℕ) → EndsUnread files r status text → IsUnreadStatus status
  unread-only status text (e, is, said, why) = subst IsUnreadStatus (sym is) (error-status e)

  -- ---- lack of memory

  pub unread-memory : EndsUnread files r OutOfMemory memory_text
  unread-memory = (NoRoom, refl, refl, tt)

  lack-said : (e : InputError) (text : List ℕ) → OutOfMemory ≡ unread_status e → SaysUnread r e text → text ≡ memory_text
  lack-said (Unreadable role) text is said = absurd (let clash : OutOfMemory ≡ ReadFault (role_in role) = is in cc)
  lack-said (Long role) text is said = absurd (let clash : OutOfMemory ≡ TooLong (role_in role) = is in cc)
  lack-said (NoInstance x) text is said = absurd (let clash : OutOfMemory ≡ InstanceRefused x.refusal = is in cc)
  lack-said (NoSolution x) text is said = absurd (let clash : OutOfMemory ≡ StartRefused x.refusal = is in cc)
  lack-said (NoOlder x) text is said = absurd (let clash : OutOfMemory ≡ StartRefused x.refusal = is in cc)
  lack-said (NoNext x) text is said = absurd (let clash : OutOfMemory ≡ InstanceRefused x.refusal = is in cc)
  lack-said NoRoom text is said = said

  pub unread-lack : (text : List ℕ) → EndsUnread files r OutOfMemory text → text ≡ memory_text
  unread-lack text (e, is, said, why) = lack-said e text is said

  -- ---- the answer

  pub unread-answerable : IsAnswerable (EndsUnread files r)
  unread-answerable = record {
    unsaid = λ status text some h. unsaid-by (EndsUnread files r) text (λ done. absurd (unread-only Done text done))
        (λ broken. absurd (unread-only Infeasible text broken)) status h;
    memory = λ status text h. unread-memory;
  }

  pub stopped-answer : (e : InputError) (a : Answer) → IsUnread files r e → IsUnreadInputs r e a → Answers (EndsUnread files r) a
  stopped-answer e a h (inl memory) = inl (memory, unread-memory)
  stopped-answer e a h (inr (same, said)) = inr (e, same, said, h)

-- an answer that was given its file's name and what helps to mend the file
pub remedy_answer : (status : Status) (line : List ℕ) (name : List ℕ) (x : Refused) (a b : Answer) → IsSaid status line a
    → IsSaidSo a.status (SaysRemedy name a.text.items x) b → IsSaidSo status (SaysRemedy name line x) b
remedy_answer status line name x a b h (inl lack) = inl lack
remedy_answer status line name x a b (inl lack) (inr (same, said)) = inl (same ∙ lack)
remedy_answer status line name x a b (inr (is, made)) (inr (same, said)) =
    inr (same ∙ is, subst (λ l. SaysRemedy name l x b.text.items) made said)

-- ---- its cause

module _ {X : Type 0} (shelf : ShelfGhosts X) (r : InputFiles) (old new : X) where
  counted : (e : InputError) → HasReadCause shelf r old new e → HasShelfCause shelf old new (unread_status e)
  counted (Unreadable role) h = h.rose
  counted e h = tt

  pub stopped-cause : (e : InputError) (a : Answer) → HasReadCause shelf r old new e → IsUnreadInputs r e a → HasShelfCause shelf old new a.status
  stopped-cause e a h (inl lack) = subst (HasShelfCause shelf old new) (sym lack) tt
  stopped-cause e a h (inr (same, said)) = subst (HasShelfCause shelf old new) (sym same) (counted e h)

  named-read : (e : InputError) (text : List ℕ) → HasReadCause shelf r old new e → SaysUnread r e text → HasFailedRead shelf old new (unread_status e) text
  named-read (Unreadable role) text h said = (name_in r role, said, h)
  named-read e text h said = tt

  pub stopped-read : (e : InputError) (a : Answer) → HasReadCause shelf r old new e → IsUnreadInputs r e a
      → HasFailedRead shelf old new a.status a.text.items
  stopped-read e a h (inl lack) = subst (λ s. HasFailedRead shelf old new s a.text.items) (sym lack) tt
  stopped-read e a h (inr (same, here)) =
      subst (λ s. HasFailedRead shelf old new s a.text.items) (sym same) (named-read e a.text.items h here)
