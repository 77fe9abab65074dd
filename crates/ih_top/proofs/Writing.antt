-- What the two writes of a search leave, and how its call ends.
use Rattle.std.proofs.Common.{◌≡◌, ℕ, sym, ap, ◌∙◌, subst, refl, inl, inr, List, [], ◌∷◌, Option, Some, None}
use Rattle.std.specs.Prelude.{◌≢◌, ◌⊎◌}
use Rattle.ih_top.specs.Below.Arguments.{SolveCall}
use Rattle.ih_top.specs.Below.Endings.{AreBegun, AreWritten, EndsUnread, IfTold, InstanceRefused, IsLeft, IsOneOf, IsWritten, Journal, MayBeWritten, Names, NoneFound, Out, OutOfMemory, PartOr, ReadFault, StartRefused, Status}
use Rattle.ih_top.specs.Below.Endings.{StopsAt, TooLong, Unchanged, WriteFault, WritingState, none_found_text, unwritten_text}
use Rattle.ih_top.specs.Below.Searches.{Base}
use Rattle.ih_top.specs.declared.output.Output.{Output}
use Rattle.ih_top.specs.declared.output.BestOutput.{BestOutput}
use Rattle.ih_top.specs.Outputs.{HasBestMade, IsOutput, IsSaidBest, journal_writing, search_outcome, solution_writing}
use Rattle.ih_top.specs.Searches.{HasBase, IsSearch, HasSearched, HasFoundBest, HasBegun, HasFound, IsDone, SearchEnds, SearchForm, BeginsJournal, WritesJournal, BeginsSolution, WritesBoth}
use Rattle.ih_top.specs.Commands.{solve_inputs}
use Rattle.ih_endings.proofs.Files.{told-weaker}
use Rattle.ih_endings.proofs.Stopping.{unread-lack, unread-only}
use Rattle.ih_top.proofs.Leaving.{left-by, one-begun, one-stopped, one-written, written-begun}

-- ---- the writes of a journal and a solution

module _ (s : SolveCall) (journal : List ℕ) (differ : s.out ≢ s.journal) where
  pub begins-journal : (x y : Names) → MayBeWritten s.journal journal x y → BeginsJournal s journal x y
  begins-journal x y w = record { journal = w.part; out = w.others s.out differ; others = λ n apart away. w.others n away }

  pub writes-journal : (x y : Names) → IsWritten s.journal journal x y → WritesJournal s journal x y
  writes-journal x y w = record { journal = w.whole; out = w.others s.out differ; others = λ n apart away. w.others n away }

  module _ (solution : List ℕ) where
    pub begins-solution : (x y z : Names) → IsWritten s.journal journal x y → MayBeWritten s.out solution y z
        → BeginsSolution s journal solution x z
    begins-solution x y z first second = record {
      journal = second.others s.journal (λ e. differ (sym e)) ∙ first.whole;
      out = subst (λ held. PartOr solution held (z s.out)) (first.others s.out differ) second.part;
      others = λ n apart away. second.others n apart ∙ first.others n away;
    }

    pub writes-both : (x y z : Names) → IsWritten s.journal journal x y → IsWritten s.out solution y z → WritesBoth s journal solution x z
    writes-both x y z first second = record {
      journal = second.others s.journal (λ e. differ (sym e)) ∙ first.whole;
      out = second.whole;
      others = λ n apart away. second.others n apart ∙ first.others n away;
    }

-- what is begun is one of two things
told-or : {X : Type 0} (P Q R : X → X → Type 0) (old new : Option X) → ((x y : X) → R x y → P x y ⊎ Q x y) → IfTold R old new → IfTold P old new ⊎ IfTold Q old new
told-or P Q R None new f h = inl tt
told-or P Q R (Some x) None f h = absurd h
told-or P Q R (Some x) (Some y) f h = f x y h

-- ---- how a call ends of which this is left

module _ {X K : Type 0} (form : SearchForm X K) (s : SolveCall) (old new : Option Names) where
  abbrev OfSearch : Status → List ℕ → Type 0
  OfSearch status text = SearchEnds form s old new status text

  -- a call that comes no further than its files
  pub unread-search : IfTold Unchanged old new → (status : Status) (text : List ℕ) → EndsUnread old (solve_inputs s) status text → OfSearch status text
  unread-search kept OutOfMemory text h = (inl kept, unread-lack old (solve_inputs s) text h)
  unread-search kept (ReadFault role) text h = (kept, h)
  unread-search kept (InstanceRefused e) text h = (kept, h)
  unread-search kept (StartRefused e) text h = (kept, h)
  unread-search kept (TooLong role) text h = (kept, h)
  unread-search kept status text h = absurd (unread-only old (solve_inputs s) status text h)

  module _ (differ : s.out ≢ s.journal) (o : Output) (b : Base) (given : HasBase old s b) (is : IsOutput form b o) where
    abbrev journal : List ℕ
    journal = o.journal.items

    abbrev first : WritingState
    first = journal_writing s journal

    searched : IsSearch form old s b is.history
    searched = record { base = given; given = is.given; seed = is.seed; made = is.made }

    -- what is left holds of the journal that was made
    abbrev of-journal : (writes : SolveCall → List ℕ → Names → Names → Type 0) (left : Names → Names → Type 0) → ((x y : Names) → left x y → writes s journal x y)
        → IfTold left old new → HasSearched writes form s old new
    of-journal writes left f told = record {
      base = b;
      history = is.history;
      search = searched;
      written = subst (λ j. IfTold (writes s j) old new) is.journal (told-weaker left (writes s journal) old new f told);
    }

    -- ---- no timetable is feasible

    none-begun : (left : Names → Names → Type 0) → ((x y : Names) → left x y → MayBeWritten s.journal journal x y) → IfTold left old new → HasBegun form s old new
    none-begun left f = of-journal BeginsJournal left (λ x y h. begins-journal s journal differ x y (f x y h))

    none-stops : (w : WritingState) → IsOneOf w (first ∷ []) → IfTold (StopsAt w (first ∷ [])) old new → OfSearch (WriteFault (Some w.role)) (unwritten_text w.name)
    none-stops w (inl is) at =
        subst (λ (v : WritingState). OfSearch (WriteFault (Some v.role)) (unwritten_text v.name)) (sym is)
        (none-begun (StopsAt w (first ∷ [])) (λ x y h. one-stopped first x y w h) at, refl)
    none-stops w (inr never) at = absurd never

    none-left : form.has_none b is.history → (status : Status) (text : List ℕ) → IsLeft (search_outcome s journal None) old new status text → OfSearch status text
    none-left none = left-by (search_outcome s journal None) old new OfSearch whole whole none-stops
        (λ told. (inr (inl (none-begun (AreBegun (first ∷ [])) (λ x y h. one-begun first x y h) told)), refl))
      where
        whole : IfTold (AreWritten (first ∷ [])) old new → OfSearch NoneFound none_found_text
        whole told =
            ((of-journal WritesJournal (AreWritten (first ∷ [])) (λ x y h. writes-journal s journal differ x y (one-written first x y h)) told, none), refl)

    -- ---- there is a best

    module _ (best : BestOutput) (said : IsSaidBest (form.is_best b is.history) (form.solution b is.history) (form.said b is.history) best) where
      abbrev solution : List ℕ
      solution = best.solution.items

      abbrev second : WritingState
      second = solution_writing s solution

      abbrev of-best : (writes : SolveCall → List ℕ → List ℕ → Names → Names → Type 0) → IfTold (writes s journal solution) old new → HasFoundBest writes form s old new
      of-best writes told = record {
        base = b;
        history = is.history;
        place = said.place;
        search = searched;
        best = said.best;
        written = subst (λ x. IfTold (writes s (form.journal b.options is.history) x) old new) said.solution
            (subst (λ j. IfTold (writes s j solution) old new) is.journal told);
      }

      apart : first ≡ second → ⊥
      apart same = let clash : Journal ≡ Out = ap (λ (w : WritingState). w.role) same in cc

      both-written : (x y : Names) → AreWritten (first ∷ second ∷ []) x y → WritesBoth s journal solution x y
      both-written x y (mid, one, later) = writes-both s journal differ solution x mid y one (one-written second mid y later)

      -- the first write may have stopped, or the second
      first-stopped : (x y : Names) → StopsAt first (first ∷ second ∷ []) x y → BeginsJournal s journal x y
      first-stopped x y (inl (is, part)) = begins-journal s journal differ x y part
      first-stopped x y (inr (mid, one, inl (is, part))) = absurd (apart is)
      first-stopped x y (inr (mid, one, inr (last, two, never))) = absurd never

      second-stopped : (x y : Names) → StopsAt second (first ∷ second ∷ []) x y → BeginsSolution s journal solution x y
      second-stopped x y (inl (is, part)) = absurd (apart (sym is))
      second-stopped x y (inr (mid, one, later)) = begins-solution s journal differ solution x mid y one (one-stopped second mid y second later)

      both-begun : (x y : Names) → AreBegun (first ∷ second ∷ []) x y → BeginsJournal s journal x y ⊎ BeginsSolution s journal solution x y
      both-begun x y (inl (mid, one, later)) =
          inr (begins-solution s journal differ solution x mid y one (written-begun second mid y (one-written second mid y later)))
      both-begun x y (inr (w, inl (is, part))) =
          inl (begins-journal s journal differ x y (subst (λ (v : WritingState). MayBeWritten v.name v.bytes x y) is part))
      both-begun x y (inr (w, inr (mid, one, later))) = inr (begins-solution s journal differ solution x mid y one (one-stopped second mid y w later))

      best-stops : (w : WritingState) → IsOneOf w (first ∷ second ∷ []) → IfTold (StopsAt w (first ∷ second ∷ [])) old new
          → OfSearch (WriteFault (Some w.role)) (unwritten_text w.name)
      best-stops w (inl is) at =
          subst (λ (v : WritingState). OfSearch (WriteFault (Some v.role)) (unwritten_text v.name)) (sym is) (
            of-journal BeginsJournal (StopsAt first (first ∷ second ∷ [])) first-stopped
                (subst (λ (v : WritingState). IfTold (StopsAt v (first ∷ second ∷ [])) old new) is at),
            refl,
          )
      best-stops w (inr (inl is)) at =
          subst (λ (v : WritingState). OfSearch (WriteFault (Some v.role)) (unwritten_text v.name)) (sym is) (
            of-best BeginsSolution (told-weaker (StopsAt second (first ∷ second ∷ [])) (BeginsSolution s journal solution) old new second-stopped
                (subst (λ (v : WritingState). IfTold (StopsAt v (first ∷ second ∷ [])) old new) is at)),
            refl,
          )
      best-stops w (inr (inr never)) at = absurd never

      of-memory : IfTold (BeginsJournal s journal) old new ⊎ IfTold (BeginsSolution s journal solution) old new → HasBegun form s old new ⊎ HasFound form s old new
      of-memory (inl part) = inl (of-journal BeginsJournal (BeginsJournal s journal) (λ x y h. h) part)
      of-memory (inr part) = inr (of-best BeginsSolution part)

      best-left : (status : Status) (text : List ℕ) → IsLeft (search_outcome s journal (Some best)) old new status text → OfSearch status text
      best-left = left-by (search_outcome s journal (Some best)) old new OfSearch whole whole best-stops
          (λ told. (inr (of-memory (told-or (BeginsJournal s journal) (BeginsSolution s journal solution) (AreBegun (first ∷ second ∷ [])) old new both-begun told)), refl))
        where
          whole : IfTold (AreWritten (first ∷ second ∷ [])) old new → IsDone form s old new best.text.items
          whole told =
              (of-best WritesBoth (told-weaker (AreWritten (first ∷ second ∷ [])) (WritesBoth s journal solution) old new both-written told), said.text)

    pub search-left : (best : Option BestOutput) → HasBestMade form b is.history best → (status : Status) (text : List ℕ)
        → IsLeft (search_outcome s journal best) old new status text → OfSearch status text
    search-left None none = none-left none
    search-left (Some best) said = best-left best said
