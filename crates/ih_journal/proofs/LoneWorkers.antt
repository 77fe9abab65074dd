-- One worker alone: it has always seen all that there is, so each of its entries follows from those before it.
use Rattle.std.proofs.Common.{◌≡◌, ℕ, zero, suc, ◌+◌, ◌<◌, ◌≤◌, refl, sym, ap, ◌∙◌, subst, arith, inl, inr, true, false, List, [], ◌∷◌, ◌++◌, append_assoc, length, Some, None}
use Rattle.std.specs.Prelude.{slice_get}
use Rattle.std.proofs.lemmas.Bool.{cases_eq, cases_lt, eq-eqb, ne_eqb}
use Rattle.std.proofs.lemmas.List.{append-nil}
use Rattle.ih_tables.specs.declared.bills.Bill.{Bill}
use Rattle.ih_plan.specs.declared.moves.Move.{Move}
use Rattle.ih_journal.specs.Tried.{Tried}
use Rattle.ih_journal.specs.declared.entries.Verdict.{Verdict}
use Rattle.ih_journal.specs.Attempts.{HasMade, try_after, is_done, is_stale, last_by, next_try}
use Rattle.ih_plan.specs.Series.{price_of_all}
use Rattle.ih_plan.proofs.ReadLemmas.{get-more}
use Rattle.ih_journal.specs.Base.{Base}
use Rattle.ih_journal.specs.History.{plan_after, plan_at}
use Rattle.ih_journal.specs.Laws.{HasNoneStale, LoneWorkersAreNeverStale, LoneWorkersHaveOneHistory, LoneWorkersMakeEachAttemptOnce}
use Rattle.ih_journal.specs.Legal.{AreLegal, IsFull, IsLegal, attempt_of, verdict_on}
use Rattle.ih_journal.proofs.Growth.{attempt-parts, has_made-none, has_made-own, legal-more, legal-none, length-more, next-legal, verdict_at_once-fresh, verdict_on-end}

get-there : (H : List Tried) (k : ℕ) → k < length H → (f : Tried) × (slice_get H k ≡ Some f)
get-there [] k h = absurd (omega arith)
get-there (x ∷ xs) zero h = (x, refl)
get-there (x ∷ xs) (suc k) h = get-there xs k (omega arith)

-- an entry by its attempt: all else in it follows from that and from the entries before it
abbrev entry_at : Base → ℕ → List Tried → ℕ → ℕ → ℕ → ℕ → Tried
entry_at b each H worker number again seen =
    let ms : List Move = attempt_of b each worker number in
    let p : Bill = price_of_all b.instance (plan_at b H seen) ms in
    record { worker = worker; number = number; again = again; seen = seen; moves = ms; price = p; verdict = verdict_on b H number seen ms p }

entry-follows : (b : Base) (each : ℕ) (H : List Tried) (e : Tried) → IsLegal b each H e → e ≡ entry_at b each H e.worker e.number e.again e.seen
entry-follows b each H e legal =
    ap (λ (v : Verdict). let x : Tried = record e { verdict = v } in x) legal.entry.verdict
    ∙ ap (λ (p : Bill). let x : Tried = record e { price = p; verdict = verdict_on b H e.number e.seen e.moves p } in x) legal.entry.price
    ∙ ap (λ (ms : List Move).
    let p : Bill = price_of_all b.instance (plan_at b H e.seen) ms in
    let x : Tried = record e { moves = ms; price = p; verdict = verdict_on b H e.number e.seen ms p } in x) legal.drawn

module _ (b : Base) (each : ℕ) (lone : b.options.workers ≡ 1) where
  -- each entry is of a move of its own, in order
  record IsLone (H : List Tried) : Type 0 where
    legal : AreLegal b each H
    made : HasMade b.options H 0 (length H)
    few : length H ≤ b.options.moves
    fresh : HasNoneStale H

  none-lone : IsLone []
  none-lone = record {
    legal = legal-none b each;
    made = has_made-none b 0;
    few = omega arith;
    fresh = λ k e h. absurd (let no : None ≡ Some e = h in cc);
  }

  module _ (H : List Tried) (all : IsLone H) (e : Tried) (next : IsLegal b each H e) where
    own : e.worker ≡ 0
    own = let worker = next.entry.worker in omega (arith, worker, lone)

    -- the worker has seen all entries, since the last is its own
    seen-all : e.seen ≡ length H
    seen-all = elim (cases_lt e.seen (length H)) [
      | inl less ↦
          let last : (f : Tried) × (slice_get H e.seen ≡ Some f) = get-there H e.seen less in
          let worker = (all.legal e.seen last.0 last.1).entry.worker in
          let same : last.0.worker ≡ e.worker = (let here = own in omega (arith, worker, lone, here)) in
          let after = next.entry.after_own e.seen last.0 last.1 same in
          absurd (omega (arith, after))
      | inr over ↦ let most = next.entry.seen in omega (arith, over, most)
    ]

    going : (is_done b.options H 0 ≡ false) × (try_after b.options (last_by 0 H) ≡ record { number = e.number; again = e.again })
    going = attempt-parts b.options H 0 (record { number = e.number; again = e.again }) (ap (next_try b.options H) (sym own) ∙ next.entry.attempt)

    number-is : e.number ≡ length H
    number-is = ap (λ a. a.number) (sym going.1 ∙ all.made.attempt)

    again-is : e.again ≡ 0
    again-is = ap (λ a. a.again) (sym going.1 ∙ all.made.attempt)

    is-fresh : is_stale e.verdict ≡ false
    is-fresh =
        ap is_stale (next.entry.verdict ∙ verdict_on-end b H e.number e.seen e.moves e.price seen-all)
        ∙ verdict_at_once-fresh b (plan_after b H) e.number e.moves e.price

    more-moves : length H < b.options.moves
    unfolding is_done
    more-moves = elim (cases_eq b.options.moves (length H)) [
      | inl last ↦ absurd (let no : true ≡ false = sym (eq-eqb b.options.moves (length H) last) ∙ (sym all.made.done ∙ going.0) in cc)
      | inr other ↦ let few = all.few in omega (arith, few, other)
    ]

    next-lone : IsLone (H ++ e ∷ [])
    next-lone =
        let len = length-more H e in
        let room = more-moves in
        let one : length H + 1 ≡ length (H ++ e ∷ []) = omega (arith, len) in
        record {
          legal = legal-more b each H e all.legal next;
          made = subst (HasMade b.options (H ++ e ∷ []) 0) one (has_made-own b H e 0 (length H) own number-is is-fresh room);
          few = omega (arith, len, room);
          fresh = λ k f h. elim (get-more H e f k h) [
            | inl earlier ↦ all.fresh k f earlier.1
            | inr last ↦ subst (λ (g : Tried). is_stale g.verdict ≡ false) last.1 is-fresh
          ];
        }

    -- it is the one entry that may come next
    entry-is : e ≡ entry_at b each H 0 (length H) 0 (length H)
    entry-is =
        entry-follows b each H e next
        ∙ ap (λ w. entry_at b each H w e.number e.again e.seen) own
        ∙ ap (λ n. entry_at b each H 0 n e.again e.seen) number-is
        ∙ ap (λ a. entry_at b each H 0 (length H) a e.seen) again-is
        ∙ ap (λ s. entry_at b each H 0 (length H) 0 s) seen-all

  lone-from : (H es : List Tried) → IsLone H → AreLegal b each (H ++ es) → IsLone (H ++ es)
  lone-from H [] all legal = subst IsLone (sym (append-nil H)) all
  lone-from H (e ∷ es) all legal =
      subst IsLone (append_assoc H (e ∷ []) es)
      (lone-from (H ++ e ∷ []) es (next-lone H all e (next-legal b each H es e legal)) (subst (AreLegal b each) (sym (append_assoc H (e ∷ []) es)) legal))

  all-lone : (H : List Tried) → AreLegal b each H → IsLone H
  all-lone H legal = lone-from [] H none-lone legal

  full-moves : (H : List Tried) → IsFull b each H → length H ≡ b.options.moves
  unfolding is_done
  full-moves H full = elim (cases_eq b.options.moves (length H)) [
    | inl last ↦ sym last
    | inr other ↦
        let some : 0 < b.options.workers = omega (arith, lone) in
        let done = full.done 0 some in
        absurd (let no : false ≡ true = sym (ne_eqb b.options.moves (length H) other) ∙ (sym (all-lone H full.legal).made.done ∙ done) in cc)
  ]

  same-from : (H es gs : List Tried) → IsLone H → AreLegal b each (H ++ es) → AreLegal b each (H ++ gs) → length es ≡ length gs → es ≡ gs
  same-from H [] [] all left right len = refl
  same-from H [] (g ∷ gs) all left right len = absurd (omega (arith, len))
  same-from H (e ∷ es) [] all left right len = absurd (omega (arith, len))
  same-from H (e ∷ es) (g ∷ gs) all left right len =
      let one = next-legal b each H es e left in
      let other = next-legal b each H gs g right in
      let same : e ≡ g = entry-is H all e one ∙ sym (entry-is H all g other) in
      let behind : AreLegal b each ((H ++ e ∷ []) ++ gs) =
      subst (AreLegal b each) (ap (λ x. H ++ x ∷ gs) (sym same) ∙ sym (append_assoc H (e ∷ []) gs)) right in
      let rest = same-from (H ++ e ∷ []) es gs (next-lone H all e one) (subst (AreLegal b each) (sym (append_assoc H (e ∷ []) es)) left) behind (omega (arith, len)) in
      ap (λ x. x ∷ es) same ∙ ap (λ ys. g ∷ ys) rest

pub lone-fresh : LoneWorkersAreNeverStale
lone-fresh b each H lone legal = (all-lone b each lone H legal).fresh

pub lone-moves : LoneWorkersMakeEachAttemptOnce
lone-moves b each H lone full = full-moves b each lone H full

pub lone-same : LoneWorkersHaveOneHistory
lone-same b each H G lone full other =
    let left = full-moves b each lone H full in
    let right = full-moves b each lone G other in
    same-from b each lone [] H G (none-lone b each lone) full.legal other.legal (omega (arith, left, right))
