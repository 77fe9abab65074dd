-- What is said behind a text that was put out before.
use Rattle.std.proofs.Common.{zero, suc, ◌≡◌, ◌∙◌, ◌≤◌, ℕ, refl, ap, sym, inl, inr, List, [], ◌∷◌, ◌++◌, take, append_assoc, Option, Some, None}
use Rattle.ih_shelf.specs.Outside.{IfTold, IsAppended, MayBeAppended}
use Rattle.ih_endings.specs.declared.status.Status.{Status}
use Rattle.ih_endings.specs.declared.status.Status.TheVariants.{ReadFault, WriteFault, OutOfMemory}
use Rattle.ih_endings.specs.Answers.{HasFileCause}
use Rattle.ih_endings.specs.Ends.{Ends, HasCause, Received}
use Rattle.ih_endings.specs.Texts.{ReceivedPart}
use Rattle.ih_inputs.proofs.Causes.{rose-from}
use Rattle.ih_endings.proofs.Files.{told-then}

-- ---- counts

module _ (reads mid reads' writes between writes' : ℕ) (le : reads ≤ mid) (under : writes ≤ between) where
  pub file-cause-from : (status : Status) → HasFileCause mid reads' between writes' status → HasFileCause reads reads' writes writes' status
  file-cause-from (ReadFault role) rose = rose-from reads mid reads' le rose
  file-cause-from (WriteFault None) none = none
  file-cause-from (WriteFault (Some role)) rose = rose-from writes between writes' under rose
  file-cause-from status h = tt

  module _ (puts among puts' : ℕ) (below : puts ≤ among) where
    pub cause-from : (status : Status) → HasCause mid reads' between writes' among puts' status → HasCause reads reads' writes writes' puts puts' status
    cause-from (ReadFault role) rose = rose-from reads mid reads' le rose
    cause-from (WriteFault None) rose = rose-from puts among puts' below rose
    cause-from (WriteFault (Some role)) rose = rose-from writes between writes' under rose
    cause-from status h = tt

-- ---- texts

take-behind : (p t : List ℕ) (k : ℕ) → (j : ℕ) × (take j (p ++ t) ≡ p ++ take k t)
take-behind [] t k = (k, refl)
take-behind (x ∷ p) t k = let r = take-behind p t k in (suc r.0, ap (λ (ys : List ℕ). x ∷ ys) r.1)

take-longer : (k : ℕ) (t more : List ℕ) → (j : ℕ) × (take j (t ++ more) ≡ take k t)
take-longer zero t more = (0, refl)
take-longer (suc k) [] more = (0, refl)
take-longer (suc k) (x ∷ t) more = let r = take-longer k t more in (suc r.0, ap (λ (ys : List ℕ). x ∷ ys) r.1)

-- a part of a text is a part of a longer one
pub part-longer : (t more : List ℕ) (old new : Option (List ℕ)) → IfTold (MayBeAppended t) old new → IfTold (MayBeAppended (t ++ more)) old new
part-longer t more None new h = tt
part-longer t more (Some x) None h = h
part-longer t more (Some x) (Some y) (k, is) = let r = take-longer k t more in (r.0, is ∙ ap (λ (ys : List ℕ). x ++ ys) (sym r.1))

pub appended-then : (p t : List ℕ) (old mid new : Option (List ℕ)) → IfTold (IsAppended p) old mid → IfTold (IsAppended t) mid new
    → IfTold (IsAppended (p ++ t)) old new
appended-then p t old mid new =
    told-then (IsAppended p) (IsAppended t) (IsAppended (p ++ t)) old mid new
    (λ x y z h k. k ∙ ap (λ (ys : List ℕ). ys ++ t) h ∙ append_assoc x p t)

pub part-then : (p t : List ℕ) (old mid new : Option (List ℕ)) → IfTold (IsAppended p) old mid → IfTold (MayBeAppended t) mid new
    → IfTold (MayBeAppended (p ++ t)) old new
part-then p t old mid new =
    told-then (IsAppended p) (MayBeAppended t) (MayBeAppended (p ++ t)) old mid new
    (λ x y z h k. let r = take-behind p t k.0 in
    (r.0, k.1 ∙ ap (λ (ys : List ℕ). ys ++ take k.0 t) h ∙ append_assoc x p (take k.0 t) ∙ ap (λ (ys : List ℕ). x ++ ys) (sym r.1)))

module _ (p : List ℕ) (old mid new : Option (List ℕ)) (before : IfTold (IsAppended p) old mid) where
  pub received-later : (status : Status) (faults between faults' : ℕ) → faults ≤ between → (t : List ℕ) → Received status mid new between faults' t
      → Received status old new faults faults' (p ++ t)
  received-later status faults between faults' le t (inl whole) = inl (appended-then p t old mid new before whole)
  received-later status faults between faults' le t (inr (same, rose, part)) =
      inr (same, rose-from faults between faults' le rose, part-then p t old mid new before part)

  pub part-later : (lacks between lacks' : ℕ) → lacks ≤ between → (t : List ℕ) → ReceivedPart mid new between lacks' t
      → ReceivedPart old new lacks lacks' (p ++ t)
  part-later lacks between lacks' le t (rose, part) = (rose-from lacks between lacks' le rose, part-then p t old mid new before part)

-- ---- ends

-- each end of a family is one of another, with its text behind what was said before
pub ends-later : (small large : Status → List ℕ → Type 0) (f : List ℕ → List ℕ) (cause cause' : Status → Type 0)
    (received part received' part' : List ℕ → Type 0)
    → ((s : Status) (t : List ℕ) → small s t → large s (f t)) → ((s : Status) → cause s → cause' s)
    → ((t : List ℕ) → received t → received' (f t)) → ((t : List ℕ) → part t → part' (f t))
    → (status : Status) → Ends small cause received part status → Ends large cause' received' part' status
ends-later small large f cause cause' received part received' part' ends why whole begun OutOfMemory (inl (t, h, g)) = inl (f t, ends OutOfMemory t h, whole t g)
ends-later small large f cause cause' received part received' part' ends why whole begun OutOfMemory (inr (s, t, h, c, p)) =
    inr (s, f t, ends s t h, why s c, begun t p)
ends-later small large f cause cause' received part received' part' ends why whole begun status h =
    (f h.0, ends status h.0 h.1, whole h.0 h.2)
