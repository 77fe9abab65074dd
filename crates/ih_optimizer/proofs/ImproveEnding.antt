-- How a call of improve ends, by what it reads: OUT only where it is there.
use Rattle.std.proofs.Common.{◌≡◌, ◌∙◌, ap, inl, inr, refl, subst, sym, Bool, List, ℕ, [], Option, Some, None}
use Rattle.std.specs.Prelude.{◌≢◌, ◌⊎◌, IfSome}
use Rattle.ih_optimizer.specs.Below.Wards.{Draft, Timetable}
use Rattle.ih_optimizer.specs.Below.Endings.{Answer, Answers, BegunEnds, Ends, EndsUnread, HasInputs, IfTold, IsConcluded, IsSaid, Names, OutOfMemory, StartRefused, Status, Unchanged, is_there, memory_text, unsaid}
use Rattle.ih_optimizer.specs.Below.Searches.{Leaves, Outcome}
use Rattle.ih_endings.proofs.Later.{ends-later}
use Rattle.ih_endings.proofs.Saying.{IsAnswerable, beside, ended, said-answer, said-status}
use Rattle.ih_endings.proofs.Stopping.{unread-answerable, unread-memory}
use Rattle.ih_frame.proofs.Begun.{unbegun-ended, unread-ended}
use Rattle.ih_optimizer.specs.Call.{ImproveCall, improve_inputs, reading}
use Rattle.ih_optimizer.specs.Pacing.{most_rounds}
use Rattle.ih_optimizer.specs.Pinning.{first_unknown, unknown_patient, unknown_text}
use Rattle.ih_optimizer.specs.Rounds.{IsRound, IsSearched}
use Rattle.ih_optimizer.specs.Searching.{ImproveEnds, IsSearch, PinsNobody, SearchEnds, task_of}

module _ (c : ImproveCall) (found : Bool) (old new : Option Names) (there : IfSome old (λ files. found ≡ is_there files c.out)) (cause : Status → Type 0)
    (received part : List ℕ → Type 0) where
  -- the call as it reads
  abbrev call : ImproveCall
  call = reading found c

  -- each end of that is one of the call
  as-improve : (ends : Status → List ℕ → Type 0) → ((s : Status) (t : List ℕ) → ends s t → SearchEnds call old new s t) → (status : Status)
      → Ends ends cause received part status → Ends (ImproveEnds c old new) cause received part status
  as-improve ends f =
      ends-later ends (ImproveEnds c old new) (λ t. t) cause cause received part received part
      (λ s t h. record { found = found; there = there; ends = f s t h }) (λ s h. h) (λ t h. h) (λ t h. h)

  -- by what OUT has that may stay, and what is told of all feasible timetables
  abbrev Begun : Option Timetable → Option Outcome → Status → List ℕ → Type 0
  Begun held bound =
      BegunEnds (IsSearch old call held bound) (IsRound Leaves (task_of call held bound)) (IsSearched (task_of call held bound)) (most_rounds c.pace.length c.pace.rounds) (improve_inputs call) old new

  pub search-ended : (held : Option Timetable) (bound : Option Outcome) (status : Status) → Ends (Begun held bound) cause received part status
      → Ends (ImproveEnds c old new) cause received part status
  search-ended held bound = as-improve (Begun held bound) (λ s t h. record { held = held; bound = bound; ends = inr h })

  module _ (same : IfTold Unchanged old new) where
    -- the files can't be had, and that was said
    pub unread-call : (a : Answer) → Answers (EndsUnread old (improve_inputs call)) a → (status : Status) → cause a.status
        → IsConcluded a.status a.text.items received part status → Ends (ImproveEnds c old new) cause received part status
    unread-call a answers status why put =
        search-ended None None status
        (unread-ended (IsSearch old call None None) (IsRound Leaves (task_of call None None)) (IsSearched (task_of call None None)) (most_rounds c.pace.length c.pace.rounds)
        (improve_inputs call) old new received part same cause a answers status why put)

    -- memory ran out before the search began
    pub unbegun-call : cause OutOfMemory → received memory_text ⊎ part memory_text → (status : Status) → status ≡ OutOfMemory
        → Ends (ImproveEnds c old new) cause received part status
    unbegun-call why said status is =
        search-ended None None status
        (unbegun-ended (IsSearch old call None None) (IsRound Leaves (task_of call None None)) (IsSearched (task_of call None None)) (most_rounds c.pace.length c.pace.rounds)
        (improve_inputs call) old new received part same cause why said status is)

    -- it pins nobody, or memory ran out as that was to be said
    abbrev Nobody : Status → List ℕ → Type 0
    Nobody s t = PinsNobody old call s t ⊎ EndsUnread old (improve_inputs call) s t

    nobody-unsaid : (s : Status) (t : List ℕ) → t ≢ [] → Nobody s t → Nobody (unsaid s) t
    nobody-unsaid s t some (inl nobody) =
        let refused = nobody.refused in
        let same_status : unsaid s ≡ s = ap unsaid refused ∙ sym refused in
        inl (subst (λ (x : Status). PinsNobody old call x t) (sym same_status) nobody)
    nobody-unsaid s t some (inr unread) = inr ((unread-answerable old (improve_inputs call)).unsaid s t some unread)

    nobody-answerable : IsAnswerable Nobody
    nobody-answerable = record { unsaid = nobody-unsaid; memory = λ s t h. inr (unread-memory old (improve_inputs call)) }

    abbrev Left : Status → List ℕ → Type 0
    Left s t = IfTold Unchanged old new × Nobody s t

    left-ends : (s : Status) (t : List ℕ) → Left s t → SearchEnds call old new s t
    left-ends s t (kept, inl nobody) = record { held = None; bound = None; ends = inl (kept, nobody) }
    left-ends s t (kept, inr unread) = record { held = None; bound = None; ends = inr (inl (kept, unread)) }

    -- an id that no patient has was said
    pub nobody-ended : (I : Draft) (given : Timetable) → HasInputs old (improve_inputs call) I given → (id : List ℕ) → first_unknown I c.pins ≡ Some id
        → (a : Answer) → IsSaid (StartRefused unknown_patient) (unknown_text id) a → cause (StartRefused unknown_patient) → cause OutOfMemory → (status : Status)
        → IsConcluded a.status a.text.items received part status → Ends (ImproveEnds c old new) cause received part status
    nobody-ended I given inputs id unknown a said why memory status put =
        let nobody : PinsNobody old call (StartRefused unknown_patient) (unknown_text id) =
        record { instance = I; given = given; inputs = inputs; id = id; unknown = unknown; refused = refl; said = refl } in
        let able = beside (IfTold Unchanged old new) Nobody nobody-answerable in
        as-improve Left left-ends status
        (ended Left able cause received part a status
        (said-answer Left able (StartRefused unknown_patient) (unknown_text id) a (same, inl nobody) said)
        (said-status cause (StartRefused unknown_patient) (unknown_text id) a why memory said) put)
