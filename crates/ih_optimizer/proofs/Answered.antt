-- A call whose files are accepted, and in which no count rose, comes to its end; memory may run out in any call.
use Rattle.std.proofs.Common.{◌≡◌, ℕ, refl, sym, ap, subst, inl, inr, Bool, true, false, List, [], ◌∷◌, Option, Some, None}
use Rattle.std.specs.Prelude.{if◌then◌else◌, ◌≢◌, ◌⊎◌}
use Rattle.ih_optimizer.specs.Below.Wards.{Draft, Timetable, bill_of, feasible}
use Rattle.ih_optimizer.specs.Below.Arguments.{Text}
use Rattle.ih_optimizer.specs.Below.Endings.{BegunEnds, Done, Given, HasGiven, HasNoFault, IfTold, Names, NoneFound, OutOfMemory, OutcomeState, Status, Unchanged, is_there, memory_text}
use Rattle.ih_optimizer.specs.Below.Searches.{ImproverState, Leaves}
use Rattle.ih_endings.proofs.Files.{told-same}
use Rattle.ih_endings.proofs.Stopping.{unread-memory}
use Rattle.ih_frame.proofs.Complete.{accepted, steps-answered}
use Rattle.ih_optimizer.specs.Call.{ImproveCall, improve_inputs, reading}
use Rattle.ih_optimizer.specs.Pacing.{most_rounds}
use Rattle.ih_optimizer.specs.Pinning.{first_unknown}
use Rattle.ih_optimizer.specs.Rounds.{IsRound, IsSearched, SearchTask, goes_out, stays}
use Rattle.ih_optimizer.specs.Searching.{ImproveEnds, IsImproveAnswered, IsSearch, PinsNobody, SearchEnds, task_of}

-- a status of a search that is over
abbrev IsOver : Status → Type 0
IsOver status = (status ≡ Done) ⊎ (status ≡ NoneFound) ⊎ (status ≡ OutOfMemory)

by-flag : (b : Bool) (o found none : OutcomeState) → IsOver found.status → IsOver none.status → o ≡ (if b then found else none) → IsOver o.status
by-flag true o found none one other is = subst IsOver (sym (ap (λ (p : OutcomeState). p.status) is)) one
by-flag false o found none one other is = subst IsOver (sym (ap (λ (p : OutcomeState). p.status) is)) other

stays-over : (t : SearchTask) (x : ImproverState) (held : Option Timetable) → IsOver (stays t x held).status
stays-over t x None = inr (inl refl)
stays-over t x (Some H) = by-flag (feasible (bill_of x.instance H)) _ _ _ (inl refl) (inr (inl refl)) refl

searched-over : (t : SearchTask) (x : ImproverState) (o : OutcomeState) → IsSearched t x o → IsOver o.status
searched-over t x o is = by-flag (goes_out t x) o _ _ (inl refl) (stays-over t x t.held) is.comes

over-answered : (c : ImproveCall) (status : Status) → IsOver status → IsImproveAnswered c status
over-answered c status (inl done) = inl done
over-answered c status (inr (inl none)) = inr (inl none)
over-answered c status (inr (inr memory)) = inr (inr (inl memory))

-- an id that no patient has is one that is pinned
some-pinned : (I : Draft) (ids : List Text) (id : Text) → first_unknown I ids ≡ Some id → ids ≢ []
some-pinned I [] id unknown none = let no : None ≡ Some id = unknown in cc
some-pinned I (i ∷ ids) id unknown none = let no : i ∷ ids ≡ [] = none in cc

pub improved : (c : ImproveCall) (files : Names) (new : Option Names) (g : Given) → HasGiven (Some files) (improve_inputs (reading (is_there files c.out) c)) g
    → (status : Status) (text : List ℕ) → HasNoFault status → ImproveEnds c (Some files) new status text → IsImproveAnswered c status
improved c files new g has status text calm h = by_ends h.ends.ends
  where
    x : ImproveCall
    x = reading h.found c

    read : HasGiven (Some files) (improve_inputs x) g
    read = subst (λ (b : Bool). HasGiven (Some files) (improve_inputs (reading b c)) g) (sym h.there) has

    by_ends : (IfTold Unchanged (Some files) new × PinsNobody (Some files) x status text)
        ⊎ BegunEnds (IsSearch (Some files) x h.ends.held h.ends.bound) (IsRound Leaves (task_of x h.ends.held h.ends.bound)) (IsSearched (task_of x h.ends.held h.ends.bound))
        (most_rounds c.pace.length c.pace.rounds) (improve_inputs x) (Some files) new status text → IsImproveAnswered c status
    by_ends (inl (kept, nobody)) = inr (inr (inr (some-pinned nobody.instance c.pins nobody.id nobody.unknown, nobody.refused)))
    by_ends (inr (inl (kept, unread))) = over-answered c status (inr (inr (accepted files (improve_inputs x) g read status text calm unread)))
    by_ends (inr (inr (v, is, e))) =
        over-answered c status (steps-answered (IsRound Leaves (task_of x h.ends.held h.ends.bound)) (IsSearched (task_of x h.ends.held h.ends.bound)) (most_rounds c.pace.length c.pace.rounds) v
        (Some files) new IsOver (λ y o z r. inl (ap (λ (p : OutcomeState). p.status) r.comes))
        (λ y o over. searched-over (task_of x h.ends.held h.ends.bound) y o over) (inr (inr refl)) status text calm e)

-- memory may run out in a call before anything is done
pub improve-memory : (c : ImproveCall) (files : Option Names) → ImproveEnds c files files OutOfMemory memory_text
improve-memory c files = by_files files
  where
    at : (found : Bool) (fs : Option Names) → SearchEnds (reading found c) fs fs OutOfMemory memory_text
    at found fs = record { held = None; bound = None; ends = inr (inl (told-same fs fs refl, unread-memory fs (improve_inputs (reading found c)))) }

    by_files : (fs : Option Names) → ImproveEnds c fs fs OutOfMemory memory_text
    by_files None = record { found = false; there = tt; ends = at false None }
    by_files (Some names) = record { found = is_there names c.out; there = refl; ends = at (is_there names c.out) (Some names) }
