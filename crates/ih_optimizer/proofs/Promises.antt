-- What a call of improve leaves, once all its rounds are over.
use Rattle.std.proofs.Common.{◌≡◌, ◌∙◌, ℕ, ◌+◌, ◌<◌, ◌≤◌, refl, sym, ap, subst, arith, inl, inr, Bool, true, false, List, [], ◌∷◌, ◌++◌, append_assoc, append-nil, length, Option, Some, None}
use Rattle.std.specs.Prelude.{codes, ◌⊎◌, ◌&&◌, IfSome, if◌then◌else◌}
use Rattle.std.proofs.lemmas.Bool.{and_parts}
use Rattle.ih_optimizer.specs.Below.Wards.{Timetable, bill_of, feasible, report, solution}
use Rattle.ih_optimizer.specs.Below.Endings.{AreAllWritten, AreSteps, AreWritten, Done, EndsFrom, HasOlder, HasSolution, IfTold, IsStatusOf, IsWritten, Names, NoneFound, OutOfMemory, OutcomeState, StartRefused, Status, StepsEnds, Unchanged, WriteFault, says, told, unsaid}
use Rattle.ih_optimizer.specs.Below.Searches.{ImproverState, IsNoDearer, IsNoWorse, Leaves, MayFollow, Outcome, Terms, is_better_than, terms_of}
use Rattle.ih_improve.proofs.BetterLemmas.{no_dearer-through, no_worse-no_dearer, no_worse-through, unbeaten-no_worse}
use Rattle.ih_endings.proofs.Files.{told-then}
use Rattle.ih_endings.proofs.Stopping.{unread-only}
use Rattle.ih_optimizer.specs.Call.{ImproveCall, improve_inputs, older_of, reading}
use Rattle.ih_optimizer.specs.Pacing.{least_rounds, most_rounds}
use Rattle.ih_optimizer.specs.declared.pacing.Length.{Length}
use Rattle.ih_optimizer.specs.declared.pacing.Length.TheVariants.{Attempts, Seconds}
use Rattle.ih_optimizer.specs.Laws.{DoneCallsHaveImproved, IsDraft, IsDrafted, IsImproved, IsInOut, NoneFoundLeavesADraft, call_terms}
use Rattle.ih_optimizer.specs.Pinning.{unknown_patient}
use Rattle.ih_optimizer.specs.Rounds.{IsRound, IsSearched, SearchTask, beats, best_writes, changes_text, end_text, first_text, gap_so_far, goes_out, kept_line, round_line, stays, unfound}
use Rattle.ih_optimizer.specs.Searching.{IsSearch, task_of}
use Rattle.ih_optimizer.proofs.RoundsTaken.{came, holds}

-- a status that isn't another one, nor what that becomes where its text can't be put out
module _ (o : OutcomeState) where
  not-done : o.status ≡ NoneFound → IsStatusOf o Done → ⊥
  not-done is (inl same) = let clash : Done ≡ NoneFound = same ∙ is in cc
  not-done is (inr (some, same)) = let clash : Done ≡ NoneFound = same ∙ ap unsaid is in cc

  not-none : o.status ≡ Done → IsStatusOf o NoneFound → ⊥
  not-none is (inl same) = let clash : NoneFound ≡ Done = same ∙ is in cc
  not-none is (inr (some, same)) = let clash : NoneFound ≡ WriteFault None = same ∙ ap unsaid is in cc

-- a search makes at least one round
least-some : (l : Length) (rounds : ℕ) → 1 ≤ rounds → 1 ≤ least_rounds l rounds
least-some (Attempts n) rounds some = some
least-some (Seconds s) rounds some = omega arith

-- ---- what stays

-- a feasible one would be better than one that isn't
never-works : (a b cheap low : Bool) → b ≡ false → (a && (if a then (if b then cheap else true) else (if b then false else low))) ≡ false → a ≡ false
never-works true true cheap low fails h = absurd (let clash : true ≡ false = fails in cc)
never-works true false cheap low fails h = absurd (let clash : true ≡ false = h in cc)
never-works false b cheap low fails h = refl

never-alone : (a : Bool) → (a && true) ≡ false → a ≡ false
never-alone true h = absurd (let clash : true ≡ false = h in cc)
never-alone false h = refl

second-fails : (a b : Bool) → a ≡ true → (a && b) ≡ false → b ≡ false
second-fails true b works h = h
second-fails false b works h = absurd (let clash : false ≡ true = works in cc)

module _ (c : ImproveCall) (held : Option Timetable) (bound : Option Outcome) (old new : Option Names) (text : List ℕ) (v : ImproverState)
    (is : IsSearch old c held bound v) where
  abbrev task : SearchTask
  task = task_of c held bound

  abbrev Ends : Status → Type 0
  Ends status = StepsEnds (IsRound Leaves task) (IsSearched task) (most_rounds c.pace.length c.pace.rounds) v old new status text

  none-yet : v.rounds ≡ 0
  none-yet = ap (λ (x : ImproverState). x.rounds) is.from.is_new

  terms-are : terms_of v ≡ call_terms c v.instance v.start v.settings
  terms-are = ap (λ (x : ImproverState). terms_of x) is.from.is_new

  -- there is at least one round
  some-round : 1 ≤ least_rounds c.pace.length c.pace.rounds
  some-round = least-some c.pace.length c.pace.rounds is.from.pace.some

  -- what the best of the last round may do
  follows : (rs : List OutcomeState) (w : ImproverState) → 0 < length rs → AreSteps (IsRound Leaves task) v rs w
      → MayFollow (terms_of v) v.start w.kept
  follows [] w some steps = absurd (omega (arith, some))
  follows (o ∷ rs) w some (u, before, r) =
      subst (λ (x : ImproverState). MayFollow (terms_of x) x.start w.kept) (came Leaves task v rs u before) r.follows

  -- the first round tells first what no feasible timetable costs less than
  told-first : (rs : List OutcomeState) (w : ImproverState) → 0 < length rs → AreSteps (IsRound Leaves task) v rs w
      → (more : List ℕ) × (told rs ≡ first_text bound 1 ++ more)
  told-first [] w some steps = absurd (omega (arith, some))
  told-first (o ∷ []) w some (u, before, r) =
      let first : w.rounds ≡ 1 =
      ap (λ (x : ImproverState). x.rounds) r.next ∙ (ap (λ (x : ImproverState). x.rounds + 1) before ∙ ap (λ (n : ℕ). n + 1) none-yet) in
      let rest : List ℕ = round_line c.pace w r.numbers ++ (gap_so_far bound w ++ codes "\n") in
      (rest, ap (λ (x : OutcomeState). x.text) r.comes ∙ ap (λ (n : ℕ). first_text bound n ++ rest) first)
  told-first (o ∷ (p ∷ rs)) w some (u, before, r) =
      let earlier = told-first (p ∷ rs) u (omega arith) before in
      (earlier.0 ++ o.text, ap (λ (t : List ℕ). t ++ o.text) earlier.1 ∙ append_assoc (first_text bound 1) earlier.0 o.text)

  -- where a feasible timetable stays, the best is none or no better
  held-no_worse : (w : ImproverState) (H : Timetable) → terms_of w ≡ terms_of v → held ≡ Some H → feasible (bill_of v.instance H) ≡ true
      → goes_out task w ≡ false → IsNoWorse (terms_of v) v.start w.kept → IsNoWorse (terms_of v) v.start H
  held-no_worse w H same at works stays no_worse = record {
    works = λ first. works;
    cheap = λ first.
        let found : feasible (bill_of w.instance w.kept) ≡ true =
        subst (λ (t : Terms). feasible (bill_of t.instance w.kept) ≡ true) (sym same) (no_worse.works first) in
        let unbeaten : is_better_than (terms_of w) w.kept H ≡ false =
        second-fails (feasible (bill_of w.instance w.kept)) _ found (subst (λ (h : Option Timetable). (feasible (bill_of w.instance w.kept) && beats w h) ≡ false) at stays) in
        let here : is_better_than (terms_of v) w.kept H ≡ false = subst (λ (t : Terms). is_better_than t w.kept H ≡ false) same unbeaten in
        let low = unbeaten-no_worse (terms_of v) w.kept H works here in
        (no_worse-through (terms_of v) v.start w.kept H no_worse low).cheap first;
  }

  -- OUT has what it had
  held-there : (H : Timetable) → held ≡ Some H → IfSome old (HasSolution c.out v.instance H)
  held-there H at = by_name c.keeps (subst (λ (h : Option Timetable). HasOlder old (older_of c) v.instance h) at is.older)
    where
      by_name : (keeps : Bool) → HasOlder old (if keeps then Some c.out else None) v.instance (Some H) → IfSome old (HasSolution c.out v.instance H)
      by_name true h = h
      by_name false h = absurd (let clash : ◌≡◌ {A = Option Timetable} (Some H) None = h in cc)

  -- ---- done

  module _ (e : Ends Done) (o : OutcomeState) (comes : IsSearched task e.taken.now o) (written : IfTold (AreWritten o.writes) e.mid new)
      (status : IsStatusOf o Done) (same : e.rest ≡ o.text) where
    abbrev w : ImproverState
    w = e.taken.now

    here : w ≡ (let x : ImproverState = record v { rounds = v.rounds + length e.taken.steps; attempts = w.attempts; kept = w.kept } in x)
    here = came Leaves task v e.taken.steps w e.taken.are

    inside : w.instance ≡ v.instance
    inside = ap (λ (x : ImproverState). x.instance) here

    same-terms : terms_of w ≡ terms_of v
    same-terms = ap (λ (x : ImproverState). terms_of x) here

    rounds : w.rounds ≡ v.rounds + length e.taken.steps
    rounds = ap (λ (x : ImproverState). x.rounds) here

    some : 0 < length e.taken.steps
    some =
        let all = rounds in
        let least = some-round in
        let over = comes.over in
        let none = none-yet in
        omega (arith, all, least, over, none)

    behind : MayFollow (terms_of v) v.start w.kept
    behind = follows e.taken.steps w some e.taken.are

    -- what is no worse than the start is no dearer than what is given
    given-no_dearer : (P : Timetable) → IsNoWorse (terms_of v) v.start P → IsNoDearer v.instance is.given P
    given-no_dearer P no_worse =
        no_dearer-through v.instance is.given v.start P is.from.no_dearer (no_worse-no_dearer (terms_of v) P no_worse)

    -- the timetable that OUT has, with what is known of it
    with-best : (P : Timetable) → feasible (bill_of v.instance P) ≡ true → IsNoDearer v.instance is.given P → IsInOut c v.instance v.start v.settings P old new
        → (before changes : List ℕ) → (changes ≡ []) ⊎ (changes ≡ changes_text v.settings.keep v.instance v.start P)
        → text ≡ first_text bound 1 ++ (before ++ (report v.instance.weights (bill_of v.instance P) ++ changes)) → IsImproved c old new text
    with-best P works no_dearer in_out before changes are told = record {
      instance = v.instance;
      given = is.given;
      inputs = is.inputs;
      settings = v.settings;
      processors = is.from.processors;
      are_settings = is.from.settings;
      start = v.start;
      started = is.from.start;
      best = P;
      feasible = works;
      no_dearer = no_dearer;
      named = is.from.named;
      in_out = in_out;
      changes = changes;
      are_changes = are;
      bound = bound;
      limit = is.limit;
      told = (before, told);
    }

    -- what the rounds tell begins so
    abbrev first : (more : List ℕ) × (told e.taken.steps ≡ first_text bound 1 ++ more)
    first = told-first e.taken.steps w some e.taken.are

    abbrev more : List ℕ
    more = first.0

    -- the text behind that of the rounds
    said-last : (last : List ℕ) → o.text ≡ last → text ≡ first_text bound 1 ++ (more ++ last)
    said-last last is_last =
        e.said ∙ (ap (λ (t : List ℕ). told e.taken.steps ++ t) (same ∙ is_last)
        ∙ (ap (λ (t : List ℕ). t ++ last) first.1 ∙ append_assoc (first_text bound 1) first.0 last))

    found-best : goes_out task w ≡ true → o ≡ says Done (end_text w) → IsImproved c old new text
    found-best goes is_found =
        let works = (and_parts (feasible (bill_of w.instance w.kept)) (beats w held) goes).0 in
        let told_last : IfTold Unchanged e.mid new = subst (λ (x : OutcomeState). IfTold (AreWritten x.writes) e.mid new) is_found written in
        let wrote = told-then (AreAllWritten e.taken.steps) Unchanged (IsWritten c.out (solution w.instance w.kept)) old e.mid new
        (λ x y z h k. let out = (holds Leaves task v none-yet e.taken.steps w x y e.taken.are h).found (omega (arith, rounds, some)) goes in
        record { whole = k c.out ∙ out.whole; others = λ n other. k n ∙ out.others n other })
        e.taken.written told_last in
        with-best w.kept (subst (λ I. feasible (bill_of I w.kept) ≡ true) inside works) (given-no_dearer w.kept behind.no_worse)
        (inl (subst (λ (t : Terms). MayFollow t v.start w.kept) terms-are behind, subst (λ I. IfTold (IsWritten c.out (solution I w.kept)) old new) inside wrote))
        more (changes_text v.settings.keep v.instance v.start w.kept) (inr refl)
        (said-last (end_text w) (ap (λ (x : OutcomeState). x.text) is_found)
        ∙ ap (λ (t : Terms). first_text bound 1 ++ (more ++ (report t.instance.weights (bill_of t.instance w.kept) ++ changes_text t.settings.keep t.instance t.start w.kept)))
        same-terms)

    kept-held : goes_out task w ≡ false → (h : Option Timetable) → held ≡ h → o ≡ stays task w h → IsImproved c old new text
    kept-held goes None at is_none = absurd (not-done o (ap (λ (x : OutcomeState). x.status) is_none) status)
    kept-held goes (Some H) at is_kept = by_works (feasible (bill_of w.instance H)) refl is_kept
      where
        by_works : (b : Bool) → feasible (bill_of w.instance H) ≡ b
            → o ≡ (if b then says Done (kept_line c.out w.instance H ++ report w.instance.weights (bill_of w.instance H)) else unfound task w)
            → IsImproved c old new text
        by_works false fails is_none = absurd (not-done o (ap (λ (x : OutcomeState). x.status) is_none) status)
        by_works true works is_kept =
            let told_last : IfTold Unchanged e.mid new = subst (λ (x : OutcomeState). IfTold (AreWritten x.writes) e.mid new) is_kept written in
            let unchanged = told-then (AreAllWritten e.taken.steps) Unchanged Unchanged old e.mid new
            (λ x y z h k. λ n. k n ∙ (holds Leaves task v none-yet e.taken.steps w x y e.taken.are h).none goes n) e.taken.written told_last in
            let works_here = subst (λ I. feasible (bill_of I H) ≡ true) inside works in
            let line = kept_line c.out w.instance H in
            with-best H works_here (given-no_dearer H (held-no_worse w H same-terms at works_here goes behind.no_worse)) (inr (held-there H at, unchanged))
            (more ++ line) [] (inl refl)
            (said-last (line ++ report w.instance.weights (bill_of w.instance H)) (ap (λ (x : OutcomeState). x.text) is_kept)
            ∙ ap (λ (t : List ℕ). first_text bound 1 ++ t) (sym (append_assoc more line (report w.instance.weights (bill_of w.instance H)))
            ∙ (ap (λ I. (more ++ line) ++ report I.weights (bill_of I H)) inside
            ∙ ap (λ (t : List ℕ). (more ++ line) ++ t) (sym (append-nil (report v.instance.weights (bill_of v.instance H)))))))

    by_best : (b : Bool) → goes_out task w ≡ b → o ≡ (if b then says Done (end_text w) else stays task w held)
        → IsImproved c old new text
    by_best true goes is_found = found-best goes is_found
    by_best false goes is_kept = kept-held goes held refl is_kept

  found : (e : Ends Done) → EndsFrom (IsRound Leaves task) (IsSearched task) e.taken.now e.mid new Done e.rest → IsImproved c old new text
  found e (inl (kept, ran, said)) = absurd (let clash : Done ≡ OutOfMemory = ran in cc)
  found e (inr (inl (apart, step))) = absurd (apart refl)
  found e (inr (inr (o, comes, inl (written, status, same)))) = by_best e o comes written status same (goes_out task e.taken.now) refl comes.comes
  found e (inr (inr (o, comes, inr stopped))) = absurd stopped

  -- ---- none found

  drafted : (e : Ends NoneFound) → EndsFrom (IsRound Leaves task) (IsSearched task) e.taken.now e.mid new NoneFound e.rest → IsDrafted c old new
  drafted e (inl (kept, ran, said)) = absurd (let clash : NoneFound ≡ OutOfMemory = ran in cc)
  drafted e (inr (inl (apart, (o, w, r, inl (written, status, same))))) =
      absurd (not-none o (ap (λ (x : OutcomeState). x.status) r.comes) status)
  drafted e (inr (inl (apart, (o, w, r, inr stopped)))) = absurd stopped
  drafted e (inr (inr (o, comes, inr stopped))) = absurd stopped
  drafted e (inr (inr (o, comes, inl (written, status, same)))) = by_best (goes_out task x) refl comes.comes
    where
      x : ImproverState
      x = e.taken.now

      inside : x.instance ≡ v.instance
      inside = ap (λ (y : ImproverState). y.instance) (came Leaves task v e.taken.steps x e.taken.are)

      by_draft : (draft : Option (List ℕ)) (y mid z : Names) → Unchanged y mid → AreWritten (best_writes draft x) mid z → IsDraft draft x.instance x.kept y z
      by_draft None y mid z before k = λ n. k n ∙ before n
      by_draft (Some name) y mid z before (m, wrote, k) = record {
        whole = k name ∙ wrote.whole;
        others = λ n other. k n ∙ (wrote.others n other ∙ before n);
      }

      -- the draft is written, where the best isn't feasible
      no-best : goes_out task x ≡ false → feasible (bill_of x.instance x.kept) ≡ false → o ≡ unfound task x → IsDrafted c old new
      no-best goes lacks is_none = record {
        instance = v.instance;
        given = is.given;
        inputs = is.inputs;
        best = x.kept;
        infeasible = subst (λ I. feasible (bill_of I x.kept) ≡ false) inside lacks;
        written = subst (λ I. IfTold (IsDraft c.draft I x.kept) old new) inside
            (told-then (AreAllWritten e.taken.steps) (AreWritten (best_writes c.draft x)) (IsDraft c.draft x.instance x.kept) old e.mid new
            (λ y mid z h k. by_draft c.draft y mid z ((holds Leaves task v none-yet e.taken.steps x y mid e.taken.are h).none goes) k)
            e.taken.written (subst (λ (p : OutcomeState). IfTold (AreWritten p.writes) e.mid new) is_none written));
      }

      by_held : goes_out task x ≡ false → (h : Option Timetable) → held ≡ h → o ≡ stays task x h → IsDrafted c old new
      by_held goes None at is_none =
          no-best goes (never-alone _ (subst (λ (h : Option Timetable). (feasible (bill_of x.instance x.kept) && beats x h) ≡ false) at goes)) is_none
      by_held goes (Some H) at is_kept = by_works (feasible (bill_of x.instance H)) refl is_kept
        where
          by_works : (b : Bool) → feasible (bill_of x.instance H) ≡ b
              → o ≡ (if b then says Done (kept_line c.out x.instance H ++ report x.instance.weights (bill_of x.instance H)) else unfound task x)
              → IsDrafted c old new
          by_works true works is_kept = absurd (not-none o (ap (λ (y : OutcomeState). y.status) is_kept) status)
          by_works false fails is_none =
              no-best goes
              (never-works (feasible (bill_of x.instance x.kept)) (feasible (bill_of x.instance H)) _ _ fails
              (subst (λ (h : Option Timetable). (feasible (bill_of x.instance x.kept) && beats x h) ≡ false) at goes)) is_none

      by_best : (b : Bool) → goes_out task x ≡ b
          → o ≡ (if b then says Done (end_text x) else stays task x held) → IsDrafted c old new
      by_best true goes is_found = absurd (not-none o (ap (λ (y : OutcomeState). y.status) is_found) status)
      by_best false goes is_kept = by_held goes held refl is_kept

-- what holds of the call as it reads holds of the call
pub done-improved : DoneCallsHaveImproved
done-improved c old new text h = elim h.ends.ends [
  | inl nobody ↦ absurd (let refused = nobody.1.refused in let clash : Done ≡ StartRefused unknown_patient = refused in cc)
  | inr begun ↦ elim begun [
    | inl unread ↦ absurd (unread-only old (improve_inputs (reading h.found c)) Done text unread.1)
    | inr s ↦ improved-as (found (reading h.found c) h.ends.held h.ends.bound old new text s.0 s.1 s.2 s.2.ends)
  ]
]
  where
    improved-as : IsImproved (reading h.found c) old new text → IsImproved c old new text
    improved-as i = record {
      instance = i.instance;
      given = i.given;
      inputs = record { instance = i.inputs.instance; plan = i.inputs.plan };
      settings = i.settings;
      processors = i.processors;
      are_settings = i.are_settings;
      start = i.start;
      started = i.started;
      best = i.best;
      feasible = i.feasible;
      no_dearer = i.no_dearer;
      named = i.named;
      in_out = i.in_out;
      changes = i.changes;
      are_changes = i.are_changes;
      bound = i.bound;
      limit = i.limit;
      told = i.told;
    }

pub none-drafted : NoneFoundLeavesADraft
none-drafted c old new text h = elim h.ends.ends [
  | inl nobody ↦ absurd (let refused = nobody.1.refused in let clash : NoneFound ≡ StartRefused unknown_patient = refused in cc)
  | inr begun ↦ elim begun [
    | inl unread ↦ absurd (unread-only old (improve_inputs (reading h.found c)) NoneFound text unread.1)
    | inr s ↦ drafted-as (drafted (reading h.found c) h.ends.held h.ends.bound old new text s.0 s.1 s.2 s.2.ends)
  ]
]
  where
    drafted-as : IsDrafted (reading h.found c) old new → IsDrafted c old new
    drafted-as d = record {
      instance = d.instance;
      given = d.given;
      inputs = record { instance = d.inputs.instance; plan = d.inputs.plan };
      best = d.best;
      infeasible = d.infeasible;
      written = d.written;
    }
