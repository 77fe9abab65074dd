-- How an answer with its text becomes the end of the call.
use Rattle.std.proofs.Common.{◌≡◌, ℕ, refl, sym, ◌∙◌, subst, inl, inr, List, [], Some, None}
use Rattle.std.specs.Prelude.{◌≢◌, ◌⊎◌, Result, Ok, Err, IfOk}
use Rattle.ih_shelf.specs.declared.outside.WriteError.{WriteError}
use Rattle.ih_shelf.specs.declared.outside.WriteError.TheVariants.{Fault, OutOfMemory as NoMemory}
use Rattle.ih_endings.specs.declared.answer.Answer.{Answer}
use Rattle.ih_endings.specs.declared.status.Status.{Status}
use Rattle.ih_endings.specs.declared.status.Status.TheVariants.{Done, ReadFault, WriteFault, OutOfMemory, Infeasible}
use Rattle.ih_endings.specs.Texts.{memory_text}
use Rattle.ih_endings.specs.Ends.{Ends, HasCause}
use Rattle.ih_endings.specs.Answers.{unsaid, Answers, IsConcluded, HasPutCause, HasFileCause, IsSaid, IsSaidOf, IsUnwritten}

-- ---- the making of a text

-- the answer has the text that was made, or memory ran out
pub said_by : {S E : Type 0} (view : S → List ℕ) (status : Status) (text : List ℕ) (r : Result S E) (a : Answer)
    → IfOk r (λ s. view s ≡ text) → IsSaidOf view status r a → IsSaid status text a
said_by view status text (Ok s) a made (same, here) = inr (same, here ∙ made)
said_by view status text (Err e) a made memory = inl memory

-- ---- families of ends

-- Of each end whose text couldn't be put out, and of each at which memory ran out as its text was made, the family has
-- that end too.
pub record IsAnswerable (ends : Status → List ℕ → Type 0) : Type 0 where
  pub unsaid : (status : Status) (text : List ℕ) → text ≢ [] → ends status text → ends (unsaid status) text
  pub memory : (status : Status) (text : List ℕ) → ends status text → ends OutOfMemory memory_text

-- The text of what was done, and that of what breaks a hard rule, may not be put out; of each other end the status
-- stays.
pub unsaid-by : (ends : Status → List ℕ → Type 0) (text : List ℕ) → (ends Done text → ends (WriteFault None) text)
    → (ends Infeasible text → ends (WriteFault None) text) → (status : Status) → ends status text → ends (unsaid status) text
unsaid-by ends text done broken Done h = done h
unsaid-by ends text done broken Infeasible h = broken h
unsaid-by ends text done broken status h = h

module _ (ends : Status → List ℕ → Type 0) (able : IsAnswerable ends) where
  -- the answer is the end that was reached, or memory ran out
  pub said-answer : (status : Status) (text : List ℕ) (a : Answer) → ends status text → IsSaid status text a → Answers ends a
  said-answer status text a h (inl memory) = inl (memory, able.memory status text h)
  said-answer status text a h (inr (same, here)) = inr (subst (λ s. ends s a.text.items) (sym same) (subst (ends status) (sym here) h))

  pub unwritten-answer : (status : Status) (text : List ℕ) (error : WriteError) (a : Answer) → ends status text → IsUnwritten status text error a → Answers ends a
  unwritten-answer status text Fault a h said = said-answer status text a h said
  unwritten-answer status text NoMemory a h memory = inl (memory, able.memory status text h)

-- an answer whose ends all are ends of another family
pub answers-weaker : (small large : Status → List ℕ → Type 0) → ((status : Status) (text : List ℕ) → small status text → large status text)
    → (a : Answer) → Answers small a → Answers large a
answers-weaker small large f a (inl (memory, h)) = inl (memory, f OutOfMemory memory_text h)
answers-weaker small large f a (inr h) = inr (f a.status a.text.items h)

-- a call that leaves the files as they are, and has an end of a family beside
pub beside : (kept : Type 0) (ends : Status → List ℕ → Type 0) → IsAnswerable ends → IsAnswerable (λ status text. kept × ends status text)
beside kept ends able = record {
  unsaid = λ status text some h. (h.0, able.unsaid status text some h.1);
  memory = λ status text h. (h.0, able.memory status text h.1);
}

-- ---- what is put out

unsaid-other : (status : Status) → status ≢ OutOfMemory → unsaid status ≢ OutOfMemory
unsaid-other status other = unsaid-by (λ s text. s ≢ OutOfMemory) [] unsaid-apart unsaid-apart status other
  where
    unsaid-apart : {X : Type 0} → X → WriteFault None ≢ OutOfMemory
    unsaid-apart x e = let clash : WriteFault None ≡ OutOfMemory = e in cc

-- a status other than lack of memory
at-status : (ends : Status → List ℕ → Type 0) (cause : Status → Type 0) (received part : List ℕ → Type 0) (status : Status) (text : List ℕ)
    → status ≢ OutOfMemory → ends status text → received text → Ends ends cause received part status
at-status ends cause received part OutOfMemory text other h g = absurd (other refl)
at-status ends cause received part status text other h g = (text, h, g)

-- that memory ran out was said, as far as that went
pub memory-ended : (ends : Status → List ℕ → Type 0) (cause : Status → Type 0) (received part : List ℕ → Type 0) → ends OutOfMemory memory_text
    → cause OutOfMemory → received memory_text ⊎ part memory_text → Ends ends cause received part OutOfMemory
memory-ended ends cause received part h why (inl g) = inl (memory_text, h, g)
memory-ended ends cause received part h why (inr p) = inr (OutOfMemory, memory_text, h, why, p)

-- whatever the answer tells, memory may run out there
end-memory : (ends : Status → List ℕ → Type 0) (able : IsAnswerable ends) (a : Answer) → Answers ends a → ends OutOfMemory memory_text
end-memory ends able a (inl (memory, h)) = h
end-memory ends able a (inr h) = able.memory a.status a.text.items h

-- the answer's text was put out, as far as that went
pub ended : (ends : Status → List ℕ → Type 0) (able : IsAnswerable ends) (cause : Status → Type 0) (received part : List ℕ → Type 0) (a : Answer) (result : Status)
    → Answers ends a → cause a.status → IsConcluded a.status a.text.items received part result → Ends ends cause received part result
ended ends able cause received part a result h why (inl (here, there, rest)) =
    subst (Ends ends cause received part) (sym there) (memory-ended ends cause received part (end-memory ends able a h) (subst cause here why) rest)
ended ends able cause received part a result (inl (memory, h)) why (inr (inl (other, there, g))) = absurd (other memory)
ended ends able cause received part a result (inl (memory, h)) why (inr (inr (other, some, rest))) = absurd (other memory)
ended ends able cause received part a result (inr h) why (inr (inl (other, there, g))) =
    subst (Ends ends cause received part) (sym there) (at-status ends cause received part a.status a.text.items other h g)
ended ends able cause received part a result (inr h) why (inr (inr (other, some, inl (there, g)))) =
    subst (Ends ends cause received part) (sym there)
    (at-status ends cause received part (unsaid a.status) a.text.items (unsaid-other a.status other) (able.unsaid a.status a.text.items some h) g)
ended ends able cause received part a result (inr h) why (inr (inr (other, some, inr (there, p)))) =
    subst (Ends ends cause received part) (sym there) (inr (a.status, a.text.items, h, why, p))

-- ---- causes

-- what holds of the status that is said, and where memory runs out, holds of the answer's
pub said-status : (P : Status → Type 0) (status : Status) (text : List ℕ) (a : Answer) → P status → P OutOfMemory → IsSaid status text a → P a.status
said-status P status text a h memory (inl ran) = subst P (sym ran) memory
said-status P status text a h memory (inr (same, here)) = subst P (sym same) h

module _ (reads reads' writes writes' puts puts' lacks lacks' : ℕ) where
  file-cause : (status : Status) → HasFileCause reads reads' writes writes' status → HasCause reads reads' writes writes' puts puts' status
  file-cause (ReadFault role) file = file
  file-cause (WriteFault None) file = absurd file
  file-cause (WriteFault (Some role)) file = file
  file-cause status file = tt

  pub has-cause : (status result : Status) → HasFileCause reads reads' writes writes' status → HasPutCause status puts puts' lacks lacks' result
      → HasCause reads reads' writes writes' puts puts' result
  has-cause status result file (inl same) = subst (HasCause reads reads' writes writes' puts puts') (sym same) (file-cause status file)
  has-cause status result file (inr (inl memory)) = subst (HasCause reads reads' writes writes' puts puts') (sym memory.0) tt
  has-cause status result file (inr (inr (there, rose))) =
      subst (HasCause reads reads' writes writes' puts puts') (sym there)
      (unsaid-by (λ s text. HasCause reads reads' writes writes' puts puts' s) [] (λ done. rose) (λ broken. rose) status (file-cause status file))
