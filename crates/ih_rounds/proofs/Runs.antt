-- Rounds, as one more is searched.
use Rattle.std.proofs.Common.{◌≡◌, ℕ, zero, suc, ◌+◌, refl, sym, ap, ◌∙◌, subst, arith, inl, inr, List, [], ◌∷◌, ◌++◌, length, Option, Some, None}
use Rattle.std.proofs.lemmas.List.{append_assoc, append-nil, map-append, length-append}
use Rattle.ih_plan.specs.Timetable.{Timetable, IsPlanOf}
use Rattle.ih_plan.proofs.ReadLemmas.{get-last, get-front, get-more}
use Rattle.ih_journal.specs.declared.entries.Entry.{Entry}
use Rattle.ih_journal.specs.declared.settings.Options.{Options}
use Rattle.ih_journal.specs.Base.{Base}
use Rattle.ih_journal.specs.Settings.{IsLawful}
use Rattle.ih_journal.specs.Texts.{journal}
use Rattle.ih_rounds.specs.declared.round.RoundOutcome.{RoundOutcome}
use Rattle.ih_rounds.specs.declared.running.Held.{Held}
use Rattle.ih_rounds.specs.declared.running.RoundsEnd.{RoundsEnd}
use Rattle.ih_rounds.specs.Ends.{Ends, HaveRun, HoldsBest, better_of, end_with}
use Rattle.ih_rounds.specs.Rounds.{AreRounds, IsRound, Round, StartsFrom, histories, journals, options_in}
use Rattle.ih_rounds.specs.Steps.{HasRound}
use Rattle.ih_rounds.specs.Answers.{Answers, with_answers}
use Rattle.ih_rounds.proofs.BestOf.{held-more}

-- so many rounds were searched, the next starts from P, and this is the best so far
pub record HaveComeTo (b : Base) (count : ℕ) (before after : Answers) (old new : List ℕ) (best : Option Held) (P : Timetable) : Type 0 where
  pub run : HaveRun b count before after old new
  pub next : StartsFrom b run.rounds count P
  pub held : HoldsBest b run.rounds best
  pub fits : IsPlanOf b.instance P

module _ (b : Base) (rs : List Round) (r : Round) where
  -- where a round of these starts, it starts among more of them
  starts-more : (q : ℕ) (P : Timetable) → StartsFrom b rs q P → StartsFrom b (rs ++ r ∷ []) q P
  starts-more zero P h = h
  starts-more (suc q) P h = (h.0, h.1, get-front rs (r ∷ []) q h.0 h.2, h.3, h.4)

  rounds-more : AreRounds b rs → IsRound b rs (length rs) r → AreRounds b (rs ++ r ∷ [])
  rounds-more legal one q s h = elim (get-more rs r s q h) [
    | inl earlier ↦
        let is = legal q s earlier.1 in
        record { start = starts-more q s.start is.start; full = is.full }
    | inr last ↦
        subst (IsRound b (rs ++ r ∷ []) q) last.1
        (subst (λ k. IsRound b (rs ++ r ∷ []) k r) (sym last.0) (record { start = starts-more (length rs) r.start one.start; full = one.full }))
  ]

journals-more : (o : Options) (q : ℕ) (rs : List Round) (r : Round)
    → journals o q (rs ++ r ∷ []) ≡ journals o q rs ++ journal (options_in o (q + length rs)) r.history
unfolding journals
journals-more o q [] r = let same : q + 0 ≡ q = omega arith in rw same (append-nil (journal (options_in o q) r.history))
journals-more o q (s ∷ ss) r =
    let same : q + 1 + length ss ≡ q + suc (length ss) = omega arith in
    ap (λ t. journal (options_in o q) s.history ++ t) (rw same at (journals-more o (q + 1) ss r))
    ∙ sym (append_assoc (journal (options_in o q) s.history) (journals o (q + 1) ss) (journal (options_in o (q + suc (length ss))) r.history))

with-none : (a : Answers) → a ≡ with_answers a []
with-none None = refl
with-none (Some hs) = ap Some (sym (append-nil hs))

with-more : (a : Answers) (hs gs : List (List Entry)) → with_answers (with_answers a hs) gs ≡ with_answers a (hs ++ gs)
with-more None hs gs = refl
with-more (Some xs) hs gs = ap Some (append_assoc xs hs gs)

pub lawful-in : (o : Options) (q : ℕ) → IsLawful o → IsLawful (options_in o q)
lawful-in o q lawful = record {
  some_worker = lawful.some_worker;
  workers = lawful.workers;
  moves = lawful.moves;
  heat = lawful.heat;
  hard = lawful.hard;
  retries = lawful.retries;
  entries = lawful.entries;
}

pub come-none : (b : Base) (answers : Answers) (old : List ℕ) (P : Timetable) → P ≡ b.start → IsPlanOf b.instance b.start
    → HaveComeTo b 0 answers answers old old None P
unfolding journals
come-none b answers old P is fits = record {
  run = record {
    rounds = [];
    count_is = refl;
    legal = λ q r h. absurd (let no : None ≡ Some r = h in cc);
    fits = λ q r h. absurd (let no : None ≡ Some r = h in cc);
    told = with-none answers;
    written = sym (append-nil old);
  };
  next = is;
  held = λ q r h. absurd (let no : None ≡ Some r = h in cc);
  fits = subst (IsPlanOf b.instance) (sym is) fits;
}

pub come-more : (b : Base) (count : ℕ) (before between after : Answers) (old new more : List ℕ) (best found : Option Held) (P : Timetable) (outcome : RoundOutcome)
    → HaveComeTo b count before between old new best P
    → HasRound (record b { start = P; options = options_in b.options count }) between after new more outcome
    → found ≡ better_of best count outcome.found outcome.count outcome.next
    → HaveComeTo b (count + 1) before after old more found outcome.next
come-more b count before between after old new more best found P outcome come has is =
    let rs = come.run.rounds in
    let H = has.history in
    let r : Round = record { start = P; history = H } in
    let len = come.run.count_is in
    let here : 0 + length rs ≡ count = omega (arith, len) in
    let one : count + 1 ≡ suc (length rs) = omega (arith, len) in
    record {
      run = record {
        rounds = rs ++ r ∷ [];
        count_is = omega (arith, len, length-append rs (r ∷ []));
        legal = rounds-more b rs r come.run.legal (rw len (record { start = come.next; full = has.full }));
        fits = λ q s h. elim (get-more rs r s q h) [
          | inl earlier ↦ come.run.fits q s earlier.1
          | inr last ↦ subst (λ (t : Round). IsPlanOf b.instance t.start) last.1 come.fits
        ];
        told = has.told ∙ (ap (λ a. with_answers a (H ∷ [])) come.run.told
            ∙ (with-more before (histories rs) (H ∷ []) ∙ ap (with_answers before) (sym (map-append (λ (s : Round). s.history) rs (r ∷ [])))));
        written = has.written ∙ (ap (λ t. t ++ journal (options_in b.options count) H) come.run.written
            ∙ (append_assoc old (journals b.options 0 rs) (journal (options_in b.options count) H)
            ∙ ap (λ t. old ++ t) (sym (subst (λ k. journals b.options 0 (rs ++ r ∷ []) ≡ journals b.options 0 rs ++ journal (options_in b.options k) H) here (journals-more b.options 0 rs r)))));
      };
      next = subst (λ k. StartsFrom b (rs ++ r ∷ []) k outcome.next) (sym one)
          (r, outcome.found, get-last rs r, rw len has.leads.best, rw len has.leads.next);
      held = rw is (subst (λ k. HoldsBest b (rs ++ r ∷ []) (better_of best k outcome.found outcome.count outcome.next)) len
          (held-more b rs r best outcome.found outcome.count outcome.next come.held (rw len has.leads.best) has.leads.count (rw len has.leads.next) has.leads.fits));
      fits = has.leads.fits;
    }

pub come-all : (b : Base) (count rounds : ℕ) (before after : Answers) (old new : List ℕ) (best : Option Held) (P : Timetable) (end : RoundsEnd) → count ≡ rounds
    → HaveComeTo b count before after old new best P → end ≡ end_with best → Ends b rounds before after old new end
come-all b count rounds before after old new None P end same come is = rw (sym same, is) (record { run = come.run; end_is = come.held })
come-all b count rounds before after old new (Some h) P end same come is = rw (sym same, is) (record { run = come.run; end_is = come.held.found })
