-- Steps that write the same leave the same in each file.
use Rattle.std.proofs.Common.{◌≡◌, ◌∙◌, sym, ap, subst, refl, Bool, true, false, List, [], ◌∷◌, ℕ}
use Rattle.std.specs.Prelude.{◌≢◌}
use Rattle.std.specs.Bool.{Decides}
use Rattle.std.specs.Str.{bytes_eq}
use Rattle.std.proofs.lemmas.Bool.{false≢true}
use Rattle.std.proofs.lemmas.Slice.Eq.{bytes_eq-Decides}
use Rattle.ih_shelf.specs.Outside.{IsWritten, Names}
use Rattle.ih_endings.specs.Ends.{Unchanged}
use Rattle.ih_frame.specs.Outcomes.{AreWritten, OutcomeState, WritingState}
use Rattle.ih_frame.specs.Steps.{AreAllWritten}

-- one name holds the bytes in both
written-same : (out bytes : List ℕ) (a b new other : Names) → Unchanged a b → IsWritten out bytes a new → IsWritten out bytes b other → Unchanged new other
written-same out bytes a b new other same first second n = by_name (bytes_eq n out) (bytes_eq-Decides n out)
  where
    by_name : (t : Bool) → Decides t (n ≡ out) → other n ≡ new n
    by_name true is = let here : n ≡ out = is.0 refl in ap other here ∙ second.whole ∙ sym first.whole ∙ sym (ap new here)
    by_name false is = let apart : n ≢ out = λ here. false≢true (is.1 here) in second.others n apart ∙ same n ∙ sym (first.others n apart)

-- the same is written to both
writes-same : (ws : List WritingState) (a b new other : Names) → Unchanged a b → AreWritten ws a new → AreWritten ws b other → Unchanged new other
writes-same [] a b new other same h k = λ n. k n ∙ same n ∙ sym (h n)
writes-same (w ∷ ws) a b new other same (m, first, rest) (p, second, left) =
    writes-same ws m p new other (written-same w.name w.bytes a b m p same first second) rest left

-- all steps write the same
abbrev pub SameWrites : List OutcomeState → List OutcomeState → Type 0
SameWrites [] [] = Unit {0}
SameWrites (o ∷ os) (p ∷ ps) = (p.writes ≡ o.writes) × SameWrites os ps
SameWrites os ps = ⊥

pub files-same : (os ps : List OutcomeState) → SameWrites os ps → (old new other : Names) → AreAllWritten os old new → AreAllWritten ps old other
    → Unchanged new other
files-same [] [] same old new other h k = λ n. k n ∙ sym (h n)
files-same [] (p ∷ ps) same old new other h k = absurd same
files-same (o ∷ os) [] same old new other h k = absurd same
files-same (o ∷ os) (p ∷ ps) (is, earlier) old new other (m, h, first) (q, k, second) =
    writes-same o.writes m q new other (files-same os ps earlier old m q h k) first (subst (λ (ws : List WritingState). AreWritten ws q other) is second)
