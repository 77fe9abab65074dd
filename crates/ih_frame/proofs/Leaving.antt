-- What is left of an outcome: its text may fail to be put out, and memory may run out.
use Rattle.std.proofs.Common.{◌≡◌, ◌∙◌, ℕ, refl, ap, inl, inr, List, [], ◌∷◌, Option, Some}
use Rattle.std.specs.Prelude.{◌≢◌}
use Rattle.ih_shelf.specs.declared.outside.WriteError.{WriteError}
use Rattle.ih_shelf.specs.Outside.{IfTold, MayBeWritten, Names}
use Rattle.ih_endings.specs.declared.answer.Answer.{Answer}
use Rattle.ih_endings.specs.declared.status.Status.{Status}
use Rattle.ih_endings.specs.declared.status.Status.TheVariants.{Done, WriteFault, OutOfMemory, Infeasible}
use Rattle.ih_endings.specs.Answers.{Answers, IsUnwritten, unsaid}
use Rattle.ih_endings.specs.Texts.{memory_text, unwritten_text}
use Rattle.ih_endings.proofs.Files.{told-weaker}
use Rattle.ih_endings.proofs.Saying.{IsAnswerable, unsaid-by, unwritten-answer}
use Rattle.ih_frame.specs.Outcomes.{AreBegun, AreWritten, IsLeft, IsStatusOf, IsStopped, OutcomeState, StopsAt, WritingState}

unsaid-twice : (status : Status) → unsaid (unsaid status) ≡ unsaid status
unsaid-twice Done = refl
unsaid-twice Infeasible = refl
unsaid-twice status = refl

-- ---- writes

module _ (writes : List WritingState) (old new : Option Names) where
  stopped-memory : (status : Status) (text : List ℕ) → IsStopped writes old new status text → IsStopped writes old new OutOfMemory memory_text
  stopped-memory (WriteFault (Some role)) text (w, one, is, at, said) =
      (told-weaker (StopsAt w writes) (AreBegun writes) old new (λ x y h. inr (w, h)) at, refl)
  stopped-memory OutOfMemory text h = (h.0, refl)
  stopped-memory status text h = absurd h

  pub stopped-answerable : IsAnswerable (IsStopped writes old new)
  stopped-answerable = record {
    unsaid = λ status text some h. unsaid-by (IsStopped writes old new) text (λ done. absurd done) (λ broken. absurd broken) status h;
    memory = stopped-memory;
  }

-- a write that failed
pub stops-first : (w : WritingState) (later : List WritingState) (old new : Option Names) → IfTold (MayBeWritten w.name w.bytes) old new → (error : WriteError)
    → (a : Answer) → IsUnwritten (WriteFault (Some w.role)) (unwritten_text w.name) error a → Answers (IsStopped (w ∷ later) old new) a
stops-first w later old new part error a said =
    let at = told-weaker (MayBeWritten w.name w.bytes) (StopsAt w (w ∷ later)) old new (λ x y h. inl (refl, h)) part in
    unwritten-answer (IsStopped (w ∷ later) old new) (stopped-answerable (w ∷ later) old new) (WriteFault (Some w.role)) (unwritten_text w.name) error a
    (w, inl refl, refl, at, refl) said

-- ---- outcomes

module _ (o : OutcomeState) (old new : Option Names) where
  unsaid-status : (status : Status) → o.text ≢ [] → IsStatusOf o status → IsStatusOf o (unsaid status)
  unsaid-status status some (inl same) = inr (some, ap unsaid same)
  unsaid-status status some (inr (there, same)) = inr (there, ap unsaid same ∙ unsaid-twice o.status)

  left-unsaid : (status : Status) (text : List ℕ) → text ≢ [] → IsLeft o old new status text → IsLeft o old new (unsaid status) text
  left-unsaid status text some (inl (told, is, said)) = inl (told, unsaid-status status (λ e. some (said ∙ e)) is, said)
  left-unsaid status text some (inr h) = inr ((stopped-answerable o.writes old new).unsaid status text some h)

  pub left-memory : (status : Status) (text : List ℕ) → IsLeft o old new status text → IsLeft o old new OutOfMemory memory_text
  left-memory status text (inl (told, is, said)) = inr (told-weaker (AreWritten o.writes) (AreBegun o.writes) old new (λ x y h. inl h) told, refl)
  left-memory status text (inr h) = inr (stopped-memory o.writes old new status text h)

  pub left-answerable : IsAnswerable (IsLeft o old new)
  left-answerable = record { unsaid = left-unsaid; memory = left-memory }
