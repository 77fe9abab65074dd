-- How calls end in which no fault came.
use Rattle.std.proofs.Common.{◌≡◌, ℕ, refl, inl, inr, List, Option}
use Rattle.std.specs.Prelude.{◌⊎◌}
use Rattle.ih_top.specs.Below.Wards.{JournalRefusal}
use Rattle.ih_top.specs.Below.Arguments.{ReplayCall, SolveCall}
use Rattle.ih_top.specs.Below.Endings.{Done, EndsUnread, HasNoFault, IfTold, IsWritten, JournalRefused, Names, NoneFound, OutOfMemory, ReadFault, Status, Unchanged, WriteFault, none_found_text}
use Rattle.ih_top.specs.Below.Searches.{Base, Entry, Tried, tries}
use Rattle.ih_top.specs.Commands.{replay_inputs, solve_inputs}
use Rattle.ih_top.specs.JournalEnds.{HasBest, HasNoBest, IsRefused, JournalEnds}
use Rattle.ih_top.specs.JournalFiles.{JournalRead}
use Rattle.ih_top.specs.Searches.{HasFoundNone, IsDone, SearchEnds, SearchForm}
use Rattle.ih_top.specs.Texts.{journal_refused_text}

-- memory ran out, or it is done, or it found none, or it came to something else
abbrev pub IsFaultless : Type 0 → Type 0 → Type 0 → Status → Type 0
IsFaultless done none other status = (status ≡ OutOfMemory) ⊎ ((status ≡ Done) × done) ⊎ ((status ≡ NoneFound) × none) ⊎ other

-- ---- searches

pub search-faultless : {X K : Type 0} (form : SearchForm X K) (s : SolveCall) (old new : Option Names) (status : Status) (text : List ℕ) → HasNoFault status
    → SearchEnds form s old new status text → IsFaultless (IsDone form s old new text) (HasFoundNone form s old new × (text ≡ none_found_text))
    (IfTold Unchanged old new × EndsUnread old (solve_inputs s) status text) status
search-faultless form s old new Done text calm h = inr (inl (refl, h))
search-faultless form s old new (ReadFault role) text calm h = absurd calm
search-faultless form s old new NoneFound text calm h = inr (inr (inl (refl, h)))
search-faultless form s old new (WriteFault role) text calm h = absurd calm
search-faultless form s old new OutOfMemory text calm h = inl refl
search-faultless form s old new status text calm h = inr (inr (inr h))

-- ---- replay and salvage

module _ (taken : JournalRead → Base → List Entry → Type 0) (refused : JournalRead → JournalRefusal → Type 0) (said : Base → List Tried → ℕ → List ℕ)
    (r : ReplayCall) (old new : Option Names) where
  -- the journal is refused
  pub record IsJournalRefused (status : Status) (text : List ℕ) : Type 0 where
    pub refusal : JournalRefusal
    pub status_is : status ≡ JournalRefused refusal
    pub why : IsRefused refused r old refusal
    pub said_is : text ≡ journal_refused_text refusal

  abbrev JournalFaultless : Status → List ℕ → Type 0
  JournalFaultless status text =
      IsFaultless ((d : HasBest taken IsWritten r old new) × (text ≡ said d.base (tries d.history) d.place)) (HasNoBest taken r old × (text ≡ none_found_text))
      (IsJournalRefused status text ⊎ EndsUnread old (replay_inputs r) status text) status

  pub journal-faultless : (status : Status) (text : List ℕ) → HasNoFault status → JournalEnds taken refused said r old new status text
      → JournalFaultless status text
  journal-faultless Done text calm h = inr (inl (refl, h))
  journal-faultless (ReadFault role) text calm h = absurd calm
  journal-faultless NoneFound text calm (kept, none, told) = inr (inr (inl (refl, (none, told))))
  journal-faultless (WriteFault role) text calm h = absurd calm
  journal-faultless OutOfMemory text calm h = inl refl
  journal-faultless (JournalRefused e) text calm (kept, why, told) =
      inr (inr (inr (inl (record { refusal = e; status_is = refl; why = why; said_is = told }))))
  journal-faultless status text calm h = inr (inr (inr (inr h.1)))
