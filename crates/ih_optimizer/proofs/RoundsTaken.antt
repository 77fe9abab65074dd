-- What rounds lead a search to, and what they leave in the file of the best.
use Rattle.std.proofs.Common.{◌≡◌, ◌∙◌, ℕ, zero, suc, ◌+◌, ◌<◌, refl, sym, ap, ap₂, subst, arith, inl, inr, Bool, true, false, nat_eq, List, [], ◌∷◌, length, Option, Some, None}
use Rattle.std.specs.Prelude.{◌&&◌, ◌||◌, ◌⊎◌, if◌then◌else◌}
use Rattle.std.proofs.lemmas.Bool.{and_parts, eqb-true}
use Rattle.ih_optimizer.specs.Below.Wards.{Timetable, bill_of, feasible, solution}
use Rattle.ih_optimizer.specs.Below.Endings.{AreAllWritten, AreSteps, AreWritten, IsWritten, Names, OthersKept, OutcomeState, Unchanged}
use Rattle.ih_optimizer.specs.Below.Searches.{ImproverState, Leaves, LegState, Span, is_better_than, led_to, standing_of, terms_of}
use Rattle.ih_improve.proofs.BetterLemmas.{better-through}
use Rattle.ih_optimizer.specs.Laws.{RoundsLeaveTheirBest}
use Rattle.ih_optimizer.specs.Rounds.{HoldsBest, IsRound, SearchTask, beats, best_writes, goes_out, is_new}

-- what isn't the first is a later one
later-one : (n : ℕ) (b : Bool) → (nat_eq n 0 || b) ≡ false → 0 < n
later-one zero b e = absurd (let clash : true ≡ false = e in cc)
later-one (suc n) b e = omega arith

-- what is new is the first, or better
first-or-better : (n : ℕ) (b : Bool) → (nat_eq n 0 || b) ≡ true → (n ≡ 0) ⊎ (b ≡ true)
first-or-better n b e = by_case (nat_eq n 0) refl e
  where
    by_case : (first : Bool) → nat_eq n 0 ≡ first → (first || b) ≡ true → (n ≡ 0) ⊎ (b ≡ true)
    by_case true is e = inl (eqb-true n 0 is)
    by_case false is e = inr e

-- a test that fails before it fails
failed-before : (a b : Bool) → (a ≡ true → b ≡ true) → b ≡ false → a ≡ false
failed-before true b works lacks = absurd (let clash : true ≡ false = sym (works refl) ∙ lacks in cc)
failed-before false b works lacks = refl

-- what is better than a feasible one is feasible
works-too : (a b cheap low : Bool) → (if a then (if b then cheap else true) else (if b then false else low)) ≡ true → b ≡ true → a ≡ true
works-too true b cheap low h on = refl
works-too false true cheap low h on = absurd (let no : false ≡ true = h in cc)
works-too false false cheap low h on = absurd (let no : false ≡ true = on in cc)

module _ (may_leave : LegState → ℕ → Timetable → Type 0) (t : SearchTask) where
  -- ---- one round

  -- the best went to OUT, and so does a better one
  goes-on : (u : ImproverState) (s : Span) (P : Timetable)
      → is_better_than (terms_of u) P u.kept ≡ true
      → goes_out t u ≡ true → goes_out t (led_to u s P) ≡ true
  goes-on u s P better goes =
      let parts = and_parts (feasible (bill_of u.instance u.kept)) (beats u t.held) goes in
      ap₂ (λ (a b : Bool). a && b) (works-too (feasible (bill_of u.instance P)) (feasible (bill_of u.instance u.kept)) _ _ better parts.0) (beat-on t.held parts.1)
    where
      beat-on : (held : Option Timetable) → beats u held ≡ true → beats (led_to u s P) held ≡ true
      beat-on None h = refl
      beat-on (Some H) h =
          better-through u.settings.hard u.settings.keep u.instance.weights (standing_of (terms_of u) P) (standing_of (terms_of u) u.kept) (standing_of (terms_of u) H) better h

  -- the file of the best behind a round that led from u to P
  one-more : (u : ImproverState) (s : Span) (P : Timetable) (o : OutcomeState) (old mid new : Names) → IsRound may_leave t u o (led_to u s P) → HoldsBest t u old mid
      → AreWritten o.writes mid new → HoldsBest t (led_to u s P) old new
  one-more u s P o old mid new r before wrote =
      by_flags (is_new u (led_to u s P)) refl (goes_out t (led_to u s P)) refl (subst (λ (x : OutcomeState). AreWritten x.writes mid new) r.comes wrote)
    where
      -- nothing is written, and nothing was
      unwritten : goes_out t (led_to u s P) ≡ false → Unchanged old mid → Unchanged mid new → HoldsBest t (led_to u s P) old new
      unwritten lacks none same = record {
        found = λ some ok. absurd (let clash : true ≡ false = sym ok ∙ lacks in cc);
        none = λ e. λ k. same k ∙ none k;
        unsearched = λ e. absurd (omega (arith, e));
        others = λ k other. same k ∙ none k;
      }

      by_flags : (n : Bool) → is_new u (led_to u s P) ≡ n → (b : Bool) → goes_out t (led_to u s P) ≡ b
          → AreWritten (best_writes (if n && b then Some t.out else None) (led_to u s P)) mid new → HoldsBest t (led_to u s P) old new
      by_flags true now true goes (m, whole, same) =
          let kept : OthersKept t.out old new = λ n other. same n ∙ whole.others n other ∙ before.others n other in
          record {
            found = λ some ok. record { whole = same t.out ∙ whole.whole; others = kept };
            none = λ lacks. absurd (let clash : true ≡ false = sym goes ∙ lacks in cc);
            unsearched = λ none. absurd (omega (arith, none));
            others = kept;
          }
      by_flags false again true goes same =
          let kept : P ≡ u.kept = r.same again in
          let later : 0 < u.rounds = later-one u.rounds _ again in
          let held = before.found later (ap (λ (Q : Timetable). goes_out t (led_to u s Q)) (sym kept) ∙ goes) in
          record {
            found = λ some ok. subst (λ (Q : Timetable). IsWritten t.out (solution u.instance Q) old new) (sym kept)
                (record { whole = same t.out ∙ held.whole; others = λ n other. same n ∙ held.others n other });
            none = λ lacks. absurd (let clash : true ≡ false = sym goes ∙ lacks in cc);
            unsearched = λ none. absurd (omega (arith, none));
            others = λ n other. same n ∙ before.others n other;
          }
      by_flags false again false lacks same =
          let kept : P ≡ u.kept = r.same again in
          unwritten lacks (before.none (ap (λ (Q : Timetable). goes_out t (led_to u s Q)) (sym kept) ∙ lacks)) same
      by_flags true now false lacks same = elim (first-or-better u.rounds _ now) [
        | inl first ↦ unwritten lacks (before.unsearched first) same
        | inr better ↦ unwritten lacks (before.none (failed-before _ _ (goes-on u s P better) lacks)) same
      ]

  -- ---- all rounds

  module _ (v : ImproverState) where
    -- to what rounds lead
    pub came : (rs : List OutcomeState) (w : ImproverState) → AreSteps (IsRound may_leave t) v rs w
        → w ≡ (let x : ImproverState = record v { rounds = v.rounds + length rs; attempts = w.attempts; kept = w.kept } in x)
    came [] w is =
        let same : v.rounds ≡ v.rounds + 0 = omega arith in
        subst (λ (y : ImproverState). y ≡ (let x : ImproverState = record v { rounds = v.rounds + 0; attempts = y.attempts; kept = y.kept } in x)) (sym is)
        (ap (λ (n : ℕ). let x : ImproverState = record v { rounds = n } in x) same)
    came (o ∷ rs) w (u, before, r) =
        let more : v.rounds + length rs + 1 ≡ v.rounds + length (o ∷ rs) = omega arith in
        let here : led_to u r.span w.kept ≡ (let x : ImproverState = record v { rounds = v.rounds + length (o ∷ rs); attempts = u.attempts + r.span.attempts; kept = w.kept } in x) =
        ap (λ (x : ImproverState). led_to x r.span w.kept) (came rs u before)
        ∙ ap (λ (n : ℕ). let x : ImproverState = record v { rounds = n; attempts = u.attempts + r.span.attempts; kept = w.kept } in x) more in
        r.next ∙ (here ∙ ap (λ (n : ℕ). let x : ImproverState = record v { rounds = v.rounds + length (o ∷ rs); attempts = n; kept = w.kept } in x)
        (sym (ap (λ (x : ImproverState). x.attempts) r.next)))

    pub holds : v.rounds ≡ 0 → (rs : List OutcomeState) (w : ImproverState) (old new : Names) → AreSteps (IsRound may_leave t) v rs w → AreAllWritten rs old new
        → HoldsBest t w old new
    holds none [] w old new is same = subst (λ (x : ImproverState). HoldsBest t x old new) (sym is) (record {
      found = λ some ok. absurd (omega (arith, some, none));
      none = λ lacks. same;
      unsearched = λ e. same;
      others = λ n other. same n;
    })
    holds none (o ∷ rs) w old new (u, before, r) (mid, earlier, wrote) =
        subst (λ (x : ImproverState). HoldsBest t x old new) (sym r.next)
        (one-more u r.span w.kept o old mid new (subst (λ (x : ImproverState). IsRound may_leave t u o x) r.next r) (holds none rs u old mid before earlier) wrote)

pub best-left : RoundsLeaveTheirBest
best-left t v w rs old new none steps wrote = holds Leaves t v none rs w old new steps wrote
