-- What is left of an outcome, by its cases, and what that means where it writes one file at most.
use Rattle.std.proofs.Common.{◌∙◌, ℕ, sym, subst, inl, inr, List, [], ◌∷◌, Option, Some}
use Rattle.ih_top.specs.Below.Endings.{AreBegun, AreWritten, Ends, IfTold, IsLeft, IsOneOf, IsStatusOf, IsStopped, IsWritten, MayBeWritten, Names, OutOfMemory, OutcomeState, Status, StopsAt, Unchanged, WriteFault, WritingState}
use Rattle.ih_top.specs.Below.Endings.{memory_text, says, unsaid, unwritten_text}
use Rattle.ih_endings.proofs.Files.{told-weaker, whole-text}
use Rattle.ih_endings.proofs.Later.{ends-later}

-- each end of a family is one of another
pub ends-weaker : (small large : Status → List ℕ → Type 0) (cause : Status → Type 0) (received part : List ℕ → Type 0)
    → ((status : Status) (text : List ℕ) → small status text → large status text) → (status : Status) → Ends small cause received part status
    → Ends large cause received part status
ends-weaker small large cause received part f =
    ends-later small large (λ t. t) cause cause received part received part f (λ s h. h) (λ t h. h) (λ t h. h)

-- ---- by cases

module _ (o : OutcomeState) (old new : Option Names) (ends : Status → List ℕ → Type 0)
    (whole : IfTold (AreWritten o.writes) old new → ends o.status o.text) (unheard : IfTold (AreWritten o.writes) old new → ends (unsaid o.status) o.text)
    (stops : (w : WritingState) → IsOneOf w o.writes → IfTold (StopsAt w o.writes) old new → ends (WriteFault (Some w.role)) (unwritten_text w.name))
    (memory : IfTold (AreBegun o.writes) old new → ends OutOfMemory memory_text) where
  stopped-by : (status : Status) (text : List ℕ) → IsStopped o.writes old new status text → ends status text
  stopped-by (WriteFault (Some role)) text (w, one, same, at, said) =
      subst (ends (WriteFault (Some role))) (sym said) (subst (λ r. ends (WriteFault (Some r)) (unwritten_text w.name)) same (stops w one at))
  stopped-by OutOfMemory text (begun, said) = subst (ends OutOfMemory) (sym said) (memory begun)
  stopped-by status text h = absurd h

  status-by : (status : Status) → IfTold (AreWritten o.writes) old new → IsStatusOf o status → ends status o.text
  status-by status told (inl same) = subst (λ s. ends s o.text) (sym same) (whole told)
  status-by status told (inr (some, same)) = subst (λ s. ends s o.text) (sym same) (unheard told)

  pub left-by : (status : Status) (text : List ℕ) → IsLeft o old new status text → ends status text
  left-by status text (inl (told, is, said)) = subst (ends status) (sym said) (status-by status told is)
  left-by status text (inr h) = stopped-by status text h

-- ---- no file

nothing-begun : (x y : Names) → AreBegun [] x y → Unchanged x y
nothing-begun x y (inl same) = same
nothing-begun x y (inr (w, never)) = absurd never

-- where nothing is written
pub said-by : (own : Status) (said : List ℕ) (old new : Option Names) (ends : Status → List ℕ → Type 0) → (IfTold Unchanged old new → ends own said)
    → (IfTold Unchanged old new → ends (unsaid own) said) → (IfTold Unchanged old new → ends OutOfMemory memory_text)
    → (status : Status) (text : List ℕ) → IsLeft (says own said) old new status text → ends status text
said-by own said old new ends whole unheard memory =
    left-by (says own said) old new ends (λ told. whole (told-weaker (AreWritten []) Unchanged old new (λ x y h. h) told))
    (λ told. unheard (told-weaker (AreWritten []) Unchanged old new (λ x y h. h) told)) (λ w none at. absurd none)
    (λ told. memory (told-weaker (AreBegun []) Unchanged old new nothing-begun told))

-- ---- one file

module _ (w : WritingState) (x y : Names) where
  pub one-written : AreWritten (w ∷ []) x y → IsWritten w.name w.bytes x y
  one-written (mid, first, same) = record { whole = same w.name ∙ first.whole; others = λ n apart. same n ∙ first.others n apart }

  pub written-begun : IsWritten w.name w.bytes x y → MayBeWritten w.name w.bytes x y
  written-begun whole = record { part = whole-text w.bytes (x w.name) (y w.name) whole.whole; others = whole.others }

  pub one-stopped : (v : WritingState) → StopsAt v (w ∷ []) x y → MayBeWritten w.name w.bytes x y
  one-stopped v (inl (is, part)) = subst (λ (u : WritingState). MayBeWritten u.name u.bytes x y) is part
  one-stopped v (inr (mid, first, never)) = absurd never

  pub one-begun : AreBegun (w ∷ []) x y → MayBeWritten w.name w.bytes x y
  one-begun (inl all) = written-begun (one-written all)
  one-begun (inr (v, stop)) = one-stopped v stop
