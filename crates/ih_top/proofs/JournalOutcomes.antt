-- What a journal comes to, and how the call ends then.
use Rattle.std.proofs.Common.{ℕ, refl, sym, subst, inl, inr, List, [], ◌∷◌, Option, Some, None}
use Rattle.std.specs.Prelude.{Result, Ok, Err, IfOk, IfSome, unwrap_or}
use Rattle.ih_top.specs.Below.Wards.{JournalRefusal}
use Rattle.ih_top.specs.Below.Arguments.{ReplayCall, StartCall}
use Rattle.ih_top.specs.Below.Endings.{AreBegun, AreWritten, CommandEnds, Done, Ends, EndsUnread, Given, HasBytes, HasGiven, HasJournal, IfTold, IsLeft, IsOneOf, IsWritten, JournalRefused, MayBeWritten, Names, NoneFound, Out}
use Rattle.ih_top.specs.Below.Endings.{OutOfMemory, Status, StopsAt, Unchanged, WriteFault, WritingState, none_found_text, unwritten_text, writes_one}
use Rattle.ih_top.specs.Below.Searches.{Base, Entry, Tried, tries}
use Rattle.ih_top.specs.declared.output.BestOutput.{BestOutput}
use Rattle.ih_top.specs.declared.outcome.JournalOutcome.{JournalOutcome}
use Rattle.ih_top.specs.declared.outcome.JournalOutcome.TheVariants.{Refused, Taken}
use Rattle.ih_top.specs.Outputs.{IsOutcome, IsTaken, journal_outcome, IsBestSaid}
use Rattle.ih_top.specs.JournalEnds.{HasBest, JournalEnds}
use Rattle.ih_top.specs.Commands.{replay_inputs}
use Rattle.ih_top.specs.JournalFiles.{HasRead, JournalRead, read_of, IsHeadedBy, IsHeadless}
use Rattle.ih_top.specs.declared.journals.JournalUse.{JournalUse}
use Rattle.ih_top.specs.declared.journals.JournalUse.TheVariants.{Replay, Salvage}
use Rattle.ih_top.specs.JournalUses.{IsJournalUse, IsLinesFor, IsOutcomeFor, JournalUseEnds, refused_for, said_for, taken_for}
use Rattle.ih_top.specs.Texts.{journal_refused_text}
use Rattle.ih_endings.proofs.Files.{told-weaker}
use Rattle.ih_endings.proofs.Stopping.{unread-lack, unread-only}
use Rattle.ih_top.proofs.Leaving.{ends-weaker, left-by, one-begun, one-stopped, one-written, said-by}

-- ---- how a call ends of which this is left

module _ (taken : JournalRead → Base → List Entry → Type 0) (refused : JournalRead → JournalRefusal → Type 0) (said : Base → List Tried → ℕ → List ℕ)
    (r : ReplayCall) (old new : Option Names) where
  abbrev OfCall : Status → List ℕ → Type 0
  OfCall status text = JournalEnds taken refused said r old new status text

  module _ (x : JournalRead) (given : HasRead old r x) where
    refused-left : (e : JournalRefusal) → refused x e → (status : Status) (text : List ℕ) → IsLeft (journal_outcome r.out (Refused e)) old new status text → OfCall status text
    refused-left e why = said-by (JournalRefused e) (journal_refused_text e) old new OfCall whole whole (λ kept. (inl kept, refl))
      where
        whole : IfTold Unchanged old new → OfCall (JournalRefused e) (journal_refused_text e)
        whole kept = (kept, record { read = x; given = given; why = why }, refl)

    none-left : IsTaken (taken x) said None → (status : Status) (text : List ℕ) → IsLeft (journal_outcome r.out (Taken None)) old new status text → OfCall status text
    none-left t = said-by NoneFound none_found_text old new OfCall whole whole (λ kept. (inl kept, refl))
      where
        whole : IfTold Unchanged old new → OfCall NoneFound none_found_text
        whole kept = (kept, record { read = x; base = t.base; history = t.history; given = given; taken_is = t.taken_is; none = t.output }, refl)

    module _ (best : BestOutput) (t : IsTaken (taken x) said (Some best)) where
      abbrev one : WritingState
      one = record { role = Out; name = r.out; bytes = best.solution.items }

      abbrev writes-best : (writes : List ℕ → List ℕ → Names → Names → Type 0) → IfTold (writes r.out best.solution.items) old new → HasBest taken writes r old new
      writes-best writes written =
          let saved : IsBestSaid said t.base (tries t.history) best = t.output in
          record {
            read = x;
            base = t.base;
            history = t.history;
            place = saved.place;
            given = given;
            taken_is = t.taken_is;
            best = saved.best;
            written = subst (λ bytes. IfTold (writes r.out bytes) old new) saved.solution written;
          }

      best-stops : (w : WritingState) → IsOneOf w (one ∷ []) → IfTold (StopsAt w (one ∷ [])) old new → OfCall (WriteFault (Some w.role)) (unwritten_text w.name)
      best-stops w (inl is) at =
          subst (λ (v : WritingState). OfCall (WriteFault (Some v.role)) (unwritten_text v.name)) (sym is)
          (writes-best MayBeWritten (told-weaker (StopsAt w (one ∷ [])) (MayBeWritten r.out best.solution.items) old new (λ x y h. one-stopped one x y w h) at), refl)
      best-stops w (inr never) at = absurd never

      best-left : (status : Status) (text : List ℕ) → IsLeft (journal_outcome r.out (Taken (Some best))) old new status text → OfCall status text
      best-left = left-by (writes_one Out r.out best.solution.items best.text.items) old new OfCall whole whole best-stops
          (λ told. (inr (writes-best MayBeWritten (told-weaker (AreBegun (one ∷ [])) (MayBeWritten r.out best.solution.items) old new (one-begun one) told)), refl))
        where
          whole : IfTold (AreWritten (one ∷ [])) old new → OfCall Done best.text.items
          whole told =
              let saved : IsBestSaid said t.base (tries t.history) best = t.output in
              (writes-best IsWritten (told-weaker (AreWritten (one ∷ [])) (IsWritten r.out best.solution.items) old new (one-written one) told), saved.text)

    outcome-left : (o : JournalOutcome) → IsOutcome (taken x) (refused x) said o → (status : Status) (text : List ℕ) → IsLeft (journal_outcome r.out o) old new status text
        → OfCall status text
    outcome-left (Refused e) why = refused-left e why
    outcome-left (Taken None) t = none-left t
    outcome-left (Taken (Some best)) t = best-left best t

  -- a call that comes no further than its files
  unread-journal : IfTold Unchanged old new → (status : Status) (text : List ℕ) → EndsUnread old (replay_inputs r) status text → OfCall status text
  unread-journal kept Done text h = absurd (unread-only old (replay_inputs r) Done text h)
  unread-journal kept NoneFound text h = absurd (unread-only old (replay_inputs r) NoneFound text h)
  unread-journal kept (WriteFault role) text h = absurd (unread-only old (replay_inputs r) (WriteFault role) text h)
  unread-journal kept OutOfMemory text h = (inl kept, unread-lack old (replay_inputs r) text h)
  unread-journal kept (JournalRefused e) text h = absurd (unread-only old (replay_inputs r) (JournalRefused e) text h)
  unread-journal kept status text h = (kept, h)

-- what the files give a call that names a journal
read-given : (files : Option Names) (r : ReplayCall) (g : Given) → HasGiven files (replay_inputs r) g → HasRead files r (read_of g)
read-given files r g has = record { inputs = has.inputs; journal = by_journal g.journal has.journal }
  where
    by_journal : (bytes : Option (List ℕ)) → HasJournal files (Some r.journal) bytes → IfSome files (HasBytes r.journal (unwrap_or bytes []))
    by_journal None never = absurd never
    by_journal (Some bytes) one = one

journal-ends : (journal_use : JournalUse) (r : ReplayCall) (old new : Option Names) (status : Status) (text : List ℕ)
    → CommandEnds (IsJournalUse journal_use r) (replay_inputs r) old new status text → JournalUseEnds journal_use r old new status text
journal-ends journal_use r old new status text (inl (kept, unread)) =
    unread-journal (taken_for journal_use r.start) (refused_for journal_use r.start) (said_for journal_use) r old new kept status text unread
journal-ends journal_use r old new status text (inr p) =
    outcome-left (taken_for journal_use r.start) (refused_for journal_use r.start) (said_for journal_use) r old new (read_of p.given)
    (read-given old r p.given p.read) p.comes.found p.comes.is status text (subst (λ o. IsLeft o old new status text) p.comes.left p.left)

-- the same of a call that was said
pub journal-ended : (journal_use : JournalUse) (r : ReplayCall) (old new : Option Names) (cause : Status → Type 0) (received part : List ℕ → Type 0) (status : Status)
    → Ends (CommandEnds (IsJournalUse journal_use r) (replay_inputs r) old new) cause received part status
    → Ends (JournalUseEnds journal_use r old new) cause received part status
journal-ended journal_use r old new cause received part =
    ends-weaker (CommandEnds (IsJournalUse journal_use r) (replay_inputs r) old new) (JournalUseEnds journal_use r old new) cause received part (journal-ends journal_use r old new)

-- what the lines come to is what the journal comes to
pub result-for : {E : Type 0} (s : StartCall) (x : JournalRead) (b : Base) (lines : List ℕ) → IsHeadedBy s x b lines → (journal_use : JournalUse)
    (r : Result JournalOutcome E) → IfOk r (IsLinesFor journal_use b lines) → IfOk r (IsOutcomeFor journal_use s x)
unfolding IsLinesFor
result-for s x b lines headed journal_use (Ok o) t = t s x headed
result-for s x b lines headed journal_use (Err e) t = t

-- a journal without a heading is refused, whatever it is read for
pub headless-for : (journal_use : JournalUse) (s : StartCall) (x : JournalRead) (e : JournalRefusal) → IsHeadless x e → refused_for journal_use s x e
headless-for Replay s x e h = inl h
headless-for Salvage s x e h = h
