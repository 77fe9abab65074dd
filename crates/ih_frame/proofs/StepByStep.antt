-- From step to step of a call: what is written and told so far, and where it may end.
use Rattle.std.proofs.Common.{◌≡◌, ℕ, ◌+◌, ◌<◌, ◌≤◌, refl, sym, subst, arith, inl, inr, List, [], ◌∷◌, ◌++◌, length, append_assoc, append-nil, Option, Some, None, Result, Ok, Err}
use Rattle.std.specs.Prelude.{◌≢◌, ◌⊎◌, IfOk}
use Rattle.ih_shelf.specs.Outside.{IfTold, IsAppended, IsOnePutAtMost, Names}
use Rattle.ih_endings.specs.declared.status.Status.{Status}
use Rattle.ih_endings.specs.declared.status.Status.TheVariants.{Done, WriteFault, OutOfMemory}
use Rattle.ih_endings.specs.Answers.{HasFileCause}
use Rattle.ih_endings.specs.Ends.{Ends, Received}
use Rattle.ih_endings.specs.Texts.{ReceivedPart, memory_text}
use Rattle.ih_endings.proofs.Files.{told-same, told-then, told-weaker}
use Rattle.ih_endings.proofs.Later.{appended-then, ends-later, file-cause-from, part-later, part-longer, received-later}
use Rattle.ih_frame.specs.Ends.{MadeEnds}
use Rattle.ih_frame.specs.Outcomes.{AreWritten, OutcomeState, outcome_of}
use Rattle.ih_frame.specs.Steps.{AreAllWritten, ArePutsAtMost, AreTaken, EndsFrom, StepsEnds, told}
use Rattle.ih_frame.specs.declared.outcome.Outcome.{Outcome}

-- ---- puts

pub no-puts : (puts : Option ℕ) → IfTold (ArePutsAtMost 0) puts puts
no-puts None = tt
no-puts (Some n) = omega arith

one-more : (old new : ℕ) → IsOnePutAtMost old new → new ≤ old + 1
one-more old new (inl same) = omega (arith, same)
one-more old new (inr one) = omega (arith, one)

-- one put behind others
pub puts-then : (n : ℕ) (old mid new : Option ℕ) → IfTold (ArePutsAtMost n) old mid → IfTold IsOnePutAtMost mid new
    → IfTold (ArePutsAtMost (n + 1)) old new
puts-then n old mid new =
    told-then (ArePutsAtMost n) IsOnePutAtMost (ArePutsAtMost (n + 1)) old mid new
    (λ x y z few one. let last = one-more y z one in omega (arith, few, last))

-- no more than so many are no more than more
pub puts-within : (m n : ℕ) (old new : Option ℕ) → m ≤ n → IfTold (ArePutsAtMost m) old new → IfTold (ArePutsAtMost n) old new
puts-within m n old new le =
    told-weaker (ArePutsAtMost m) (ArePutsAtMost n) old new (λ x y few. omega (arith, few, le))

-- a call that puts once puts no more than one that goes on in steps
pub one-within : (n : ℕ) (old new : Option ℕ) → IfTold IsOnePutAtMost old new → IfTold (ArePutsAtMost (n + 1)) old new
one-within n old new =
    told-weaker IsOnePutAtMost (ArePutsAtMost (n + 1)) old new (λ x y one. let last = one-more x y one in omega (arith, last))

-- ---- a step that is done and said

-- what was made is written, and its text is put out
abbrev pub IsDone : {E : Type 0} → Result Outcome E → Option Names → Option Names → Option (List ℕ) → Option (List ℕ) → Type 0
IsDone (Ok o) old new said now = IfTold (AreWritten (outcome_of o).writes) old new × IfTold (IsAppended o.text.items) said now
IsDone (Err e) old new said now = ⊥

pub done : {E : Type 0} (made : Result Outcome E) (old new : Option Names) (said now : Option (List ℕ)) (faults faults' : ℕ) (cause : Status → Type 0)
    (part : List ℕ → Type 0) → Ends (MadeEnds made old new) cause (Received Done said now faults faults') part Done → IsDone made old new said now
done (Ok o) old new said now faults faults' cause part (text, inl (written, is, same), inl heard) =
    (written, subst (λ (t : List ℕ). IfTold (IsAppended t) said now) same heard)
done (Ok o) old new said now faults faults' cause part (text, inl whole, inr (same, rose, begun)) =
    absurd (let clash : WriteFault None ≡ Done = same in cc)
done (Ok o) old new said now faults faults' cause part (text, inr stopped, heard) = absurd stopped
done (Err e) old new said now faults faults' cause part (text, (kept, is, memory), heard) =
    absurd (let clash : Done ≡ OutOfMemory = is in cc)

-- ---- a step that isn't

is-done : (status : Status) → (status ≡ Done) ⊎ (status ≢ Done)
is-done Done = inl refl
is-done status = inr (λ e. let clash : status ≡ Done = e in cc)

-- A call that isn't done: at another end, or where its text wanted memory as all was done.
undone-ends : (small large : Status → List ℕ → Type 0) (cause : Status → Type 0) (received : List ℕ → Type 0) (old new : Option (List ℕ)) (lacks lacks' : ℕ)
    → cause OutOfMemory → ((s : Status) → s ≢ Done → (t : List ℕ) → small s t → large s t)
    → ((t : List ℕ) → small Done t → large OutOfMemory (t ++ memory_text)) → (status : Status) → status ≢ Done
    → Ends small cause received (ReceivedPart old new lacks lacks') status → Ends large cause received (ReceivedPart old new lacks lacks') status
undone-ends small large cause received old new lacks lacks' why other whole OutOfMemory apart (inl (t, h, g)) = inl (t, other OutOfMemory apart t h, g)
undone-ends small large cause received old new lacks lacks' why other whole OutOfMemory apart (inr (s, t, h, c, (rose, part))) = elim (is-done s) [
  | inl is ↦
      inr (OutOfMemory, t ++ memory_text, whole t (subst (λ (x : Status). small x t) is h), why, (rose, part-longer t memory_text old new part))
  | inr not ↦ inr (s, t, other s not t h, c, (rose, part))
]
undone-ends small large cause received old new lacks lacks' why other whole status apart h = (h.0, other status apart h.0 h.1, h.2)

-- ---- underway

-- a call that began at x has taken so many steps and told them, and has come to y
pub record Underway {X : Type 0} (steps_to : X → OutcomeState → X → Type 0) (x y : X) (i : ℕ) (old new : Option Names) (said now : Option (List ℕ)) : Type 0 where
  pub taken : AreTaken steps_to x old new
  pub is : taken.now ≡ y
  pub count : length taken.steps ≡ i
  pub lines : IfTold (IsAppended (told taken.steps)) said now

told-nothing : (said : Option (List ℕ)) → IfTold (IsAppended []) said said
told-nothing None = tt
told-nothing (Some x) = sym (append-nil x)

pub underway-begins : {X : Type 0} (steps_to : X → OutcomeState → X → Type 0) (x : X) (files : Option Names) (said : Option (List ℕ))
    → Underway steps_to x x 0 files files said said
underway-begins steps_to x files said = record {
  taken = record { steps = []; now = x; are = refl; written = told-same files files refl };
  is = refl;
  count = refl;
  lines = told-nothing said;
}

module _ {X : Type 0} (steps_to : X → OutcomeState → X → Type 0) (ends_as : X → OutcomeState → Type 0) (x y : X) (count i left : ℕ) (old mid new : Option Names)
    (said now : Option (List ℕ)) (u : Underway steps_to x y i old mid said now) (all : i + left ≤ count) where
  -- the steps with the next one
  abbrev taken-next : (o : OutcomeState) (z : X) → steps_to y o z → IfTold (AreWritten o.writes) mid new → AreTaken steps_to x old new
  taken-next o z step wrote = record {
    steps = o ∷ u.taken.steps;
    now = z;
    are = (u.taken.now, u.taken.are, subst (λ (w : X). steps_to w o z) (sym u.is) step);
    written = told-then (AreAllWritten u.taken.steps) (AreWritten o.writes) (AreAllWritten (o ∷ u.taken.steps)) old mid new
        (λ p q r h k. (q, h, k)) u.taken.written wrote;
  }

  pub underway-next : {E : Type 0} (made : Result Outcome E) (z : X) → IfOk made (λ o. steps_to y (outcome_of o) z) → (after : Option (List ℕ))
      → IsDone made mid new now after → Underway steps_to x z (i + 1) old new said after
  underway-next (Ok o) z comes after (wrote, heard) = record {
    taken = taken-next (outcome_of o) z comes wrote;
    is = refl;
    count = let before = u.count in omega (arith, before);
    lines = appended-then (told u.taken.steps) o.text.items said now after u.lines heard;
  }
  underway-next (Err e) z comes after h = absurd h

  -- an end behind what is told
  abbrev Behind : Status → List ℕ → Type 0
  Behind status rest = StepsEnds steps_to ends_as count x old new status (told u.taken.steps ++ rest)

  behind : (status : Status) (rest : List ℕ) → EndsFrom steps_to ends_as y mid new status rest → Behind status rest
  behind status rest h = record {
    mid = mid;
    taken = u.taken;
    few = let before = u.count in omega (arith, before, all);
    rest = rest;
    said = refl;
    ends = subst (λ (w : X). EndsFrom steps_to ends_as w mid new status rest) (sym u.is) h;
  }

  -- memory ran out as the text of the next step was put out, which was written before
  unheard : (o : OutcomeState) (z : X) → steps_to y o z → 0 < left → IfTold (AreWritten o.writes) mid new → Behind OutOfMemory (o.text ++ memory_text)
  unheard o z step more wrote = record {
    mid = new;
    taken = taken-next o z step wrote;
    few = let before = u.count in omega (arith, before, all, more);
    rest = memory_text;
    said = sym (append_assoc (told u.taken.steps) o.text memory_text);
    ends = inl (told-same new new refl, refl, refl);
  }

  module _ {E : Type 0} (made : Result Outcome E) where
    stop-undone : (z : X) → IfOk made (λ o. steps_to y (outcome_of o) z) → (status : Status) → status ≢ Done → (rest : List ℕ)
        → MadeEnds made mid new status rest → Behind status rest
    stop-undone z comes status apart rest h = by_made made comes h
      where
        by_made : (m : Result Outcome E) → IfOk m (λ o. steps_to y (outcome_of o) z) → MadeEnds m mid new status rest → Behind status rest
        by_made (Ok o) comes h = behind status rest (inr (inl (apart, (outcome_of o, z, comes, h))))
        by_made (Err e) comes h = behind status rest (inl h)

    stop-unheard : (z : X) → IfOk made (λ o. steps_to y (outcome_of o) z) → 0 < left → (rest : List ℕ) → MadeEnds made mid new Done rest
        → Behind OutOfMemory (rest ++ memory_text)
    stop-unheard z comes more rest h = by_made made comes h
      where
        by_made : (m : Result Outcome E) → IfOk m (λ o. steps_to y (outcome_of o) z) → MadeEnds m mid new Done rest
            → Behind OutOfMemory (rest ++ memory_text)
        by_made (Ok o) comes (inl (wrote, is, same)) =
            subst (λ (t : List ℕ). Behind OutOfMemory (t ++ memory_text)) (sym same) (unheard (outcome_of o) z comes more wrote)
        by_made (Ok o) comes (inr stopped) = absurd stopped
        by_made (Err e) comes (kept, is, memory) = absurd (let clash : Done ≡ OutOfMemory = is in cc)

    end-behind : IfOk made (λ o. ends_as y (outcome_of o)) → (status : Status) (rest : List ℕ) → MadeEnds made mid new status rest
        → Behind status rest
    end-behind comes status rest h = by_made made comes h
      where
        by_made : (m : Result Outcome E) → IfOk m (λ o. ends_as y (outcome_of o)) → MadeEnds m mid new status rest → Behind status rest
        by_made (Ok o) comes h = behind status rest (inr (inr (outcome_of o, comes, h)))
        by_made (Err e) comes h = behind status rest (inl h)

    -- the counts rose from the steps before on
    module _ (reads mid-reads reads' writes mid-writes writes' faults mid-faults faults' lacks mid-lacks lacks' : ℕ) (r : reads ≤ mid-reads)
        (w : writes ≤ mid-writes) (f : faults ≤ mid-faults) (l : lacks ≤ mid-lacks) (after : Option (List ℕ)) (status : Status) where
      abbrev cause : Status → Type 0
      cause = HasFileCause mid-reads reads' mid-writes writes'

      abbrev received : List ℕ → Type 0
      received = Received status now after mid-faults faults'

      abbrev part : List ℕ → Type 0
      part = ReceivedPart now after mid-lacks lacks'

      abbrev Whole : Type 0
      Whole = Ends (StepsEnds steps_to ends_as count x old new) (HasFileCause reads reads' writes writes') (Received status said after faults faults')
          (ReceivedPart said after lacks lacks') status

      later : (family : Status → List ℕ → Type 0) → ((s : Status) (t : List ℕ) → family s t → Behind s t) → Ends family cause received part status → Whole
      later family f' =
          ends-later family (StepsEnds steps_to ends_as count x old new) (λ t. told u.taken.steps ++ t) cause (HasFileCause reads reads' writes writes') received
          part (Received status said after faults faults') (ReceivedPart said after lacks lacks') f'
          (file-cause-from reads mid-reads reads' writes mid-writes writes' r w)
          (received-later (told u.taken.steps) said now after u.lines status faults mid-faults faults' f)
          (part-later (told u.taken.steps) said now after u.lines lacks mid-lacks lacks' l) status

      -- the next step ended the call
      pub stops : (z : X) → IfOk made (λ o. steps_to y (outcome_of o) z) → 0 < left → status ≢ Done
          → Ends (MadeEnds made mid new) cause received part status → Whole
      stops z comes more apart h =
          later Behind (λ s t e. e)
          (undone-ends (MadeEnds made mid new) Behind cause received now after mid-lacks lacks' tt (stop-undone z comes) (stop-unheard z comes more) status
          apart h)

      -- all steps are over
      pub ends : IfOk made (λ o. ends_as y (outcome_of o)) → Ends (MadeEnds made mid new) cause received part status → Whole
      ends comes = later (MadeEnds made mid new) (end-behind comes)
