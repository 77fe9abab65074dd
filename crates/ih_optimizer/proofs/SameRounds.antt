-- Rounds that determined workers make leave the same.
use Rattle.std.proofs.Common.{◌≡◌, ◌∙◌, ℕ, sym, ap, subst, arith, List, [], ◌∷◌, length}
use Rattle.ih_optimizer.specs.Below.Wards.{Timetable}
use Rattle.ih_optimizer.specs.Below.Endings.{AreSteps, OutcomeState}
use Rattle.ih_optimizer.specs.Below.Searches.{ImproverState, IsDetermined, Leads, LegState, Span, led_to}
use Rattle.ih_improve.proofs.Determined.{one-round}
use Rattle.ih_frame.proofs.SameFiles.{SameWrites, files-same}
use Rattle.ih_optimizer.specs.Laws.{AreRounds, AttemptsLeaveTheSame, DifferInNumbers, IsTheSame, RoundsLeaveTheSame}
use Rattle.ih_optimizer.specs.Pacing.{IsNextSpan, attempts_of, share_of}
use Rattle.ih_optimizer.specs.Rounds.{IsRound, SearchTask, best_writes, round_out, round_text}
use Rattle.ih_optimizer.specs.declared.pacing.Length.{Length}
use Rattle.ih_optimizer.specs.declared.pacing.Length.TheVariants.{Attempts}

module _ (may_leave : LegState → ℕ → Timetable → Type 0) (determined : IsDetermined may_leave) (t : SearchTask) where
  -- ---- one round

  pub record AreAlike (w x : ImproverState) (o p : OutcomeState) : Type 0 where
    pub here : w ≡ x
    pub told : DifferInNumbers t (o ∷ []) (p ∷ [])
    pub writes : o.writes ≡ p.writes

  round-alike : (u w x : ImproverState) (o p : OutcomeState) → (one : IsRound may_leave t u o w) → (again : IsRound may_leave t u p x)
      → one.span ≡ again.span → AreAlike w x o p
  round-alike u w x o p one again same =
      let kept : w.kept ≡ x.kept =
      one-round may_leave determined u again.span w.kept x.kept (subst (λ (s : Span). Leads may_leave u s w.kept) same one.led) again.led in
      let here : w ≡ x =
      one.next ∙ (ap (λ (s : Span). led_to u s w.kept) same ∙ (ap (λ (P : Timetable). led_to u again.span P) kept ∙ sym again.next)) in
      record {
        here = here;
        told = (
          (
            w,
            one.numbers,
            again.numbers,
            ap (λ (q : OutcomeState). q.text) one.comes,
            ap (λ (q : OutcomeState). q.text) again.comes ∙ ap (λ (y : ImproverState). round_text t.bound t.pace y again.numbers) (sym here),
          ),
          tt,
        );
        writes = ap (λ (q : OutcomeState). q.writes) one.comes
            ∙ (ap (λ (y : ImproverState). best_writes (round_out t u y) y) here ∙ sym (ap (λ (q : OutcomeState). q.writes) again.comes));
      }

  -- ---- all rounds

  abbrev pub Alike : (w x : ImproverState) (rs ss : List OutcomeState) → Type 0
  Alike w x rs ss = (w ≡ x) × DifferInNumbers t rs ss × SameWrites rs ss

  -- one round more
  one-more : (u y w x : ImproverState) (o p : OutcomeState) (rs ss : List OutcomeState) → Alike u y rs ss → (one : IsRound may_leave t u o w)
      → (again : IsRound may_leave t u p x) → one.span ≡ again.span → Alike w x (o ∷ rs) (p ∷ ss)
  one-more u y w x o p rs ss same one again is =
      let now = round-alike u w x o p one again is in
      (now.here, (now.told.0, same.1), (sym now.writes, same.2))

  rounds-alike : (v w x : ImproverState) (spans : List Span) (rs ss : List OutcomeState) → AreRounds may_leave t v spans rs w
      → AreRounds may_leave t v spans ss x → Alike w x rs ss
  rounds-alike v w x [] [] [] first second = (first ∙ sym second, tt, tt)
  rounds-alike v w x [] [] (s ∷ ss) first second = absurd second
  rounds-alike v w x [] (r ∷ rs) ss first second = absurd first
  rounds-alike v w x (s ∷ spans) [] ss first second = absurd first
  rounds-alike v w x (s ∷ spans) (r ∷ rs) [] first second = absurd second
  rounds-alike v w x (s ∷ spans) (o ∷ rs) (p ∷ ss) (u, before, (one, is)) (y, earlier, other) =
      let same = rounds-alike v u y spans rs ss before earlier in
      let again : (r : IsRound may_leave t u p x) × (r.span ≡ s) =
      subst (λ (z : ImproverState). (r : IsRound may_leave t z p x) × (r.span ≡ s)) (sym same.0) other in
      one-more u y w x o p rs ss same one again.0 (is ∙ sym again.1)

  -- where attempts are given, the next span follows from where the search is
  next-share : (l : Length) (n rounds : ℕ) (u : ImproverState) (s : Span) → l ≡ Attempts n → IsNextSpan l rounds u s → s ≡ share_of n rounds u
  next-share l n rounds u s is next = let given : IsNextSpan (Attempts n) rounds u s = subst (λ (k : Length). IsNextSpan k rounds u s) is next in given.1

  attempts-alike : t.pace.length ≡ Attempts (attempts_of t.pace.length) → (v w x : ImproverState) (rs ss : List OutcomeState) → length rs ≡ length ss
      → AreSteps (IsRound may_leave t) v rs w → AreSteps (IsRound may_leave t) v ss x → Alike w x rs ss
  attempts-alike given v w x [] [] count first second = (first ∙ sym second, tt, tt)
  attempts-alike given v w x [] (s ∷ ss) count first second = absurd (omega (arith, count))
  attempts-alike given v w x (r ∷ rs) [] count first second = absurd (omega (arith, count))
  attempts-alike given v w x (o ∷ rs) (p ∷ ss) count (u, before, one) (y, earlier, other) =
      let same = attempts-alike given v u y rs ss (omega (arith, count)) before earlier in
      let again : IsRound may_leave t u p x = subst (λ (z : ImproverState). IsRound may_leave t z p x) (sym same.0) other in
      let n = attempts_of t.pace.length in
      one-more u y w x o p rs ss same one again
      (next-share t.pace.length n t.pace.rounds u one.span given one.paced ∙ sym (next-share t.pace.length n t.pace.rounds u again.span given again.paced))

  pub the-same : (w x : ImproverState) (rs ss : List OutcomeState) → Alike w x rs ss → IsTheSame t rs ss w x
  the-same w x rs ss same = record { search = same.0; told = same.1; files = files-same rs ss same.2 }

pub rounds-same : (may_leave : LegState → ℕ → Timetable → Type 0) → RoundsLeaveTheSame may_leave
rounds-same may_leave determined t v w x spans rs ss first second =
    the-same may_leave determined t w x rs ss (rounds-alike may_leave determined t v w x spans rs ss first second)

pub attempts-same : (may_leave : LegState → ℕ → Timetable → Type 0) → AttemptsLeaveTheSame may_leave
attempts-same may_leave determined t v w x rs ss given count first second =
    the-same may_leave determined t w x rs ss (attempts-alike may_leave determined t given v w x rs ss count first second)
