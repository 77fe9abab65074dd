-- What comes after a try: the next try of its attempt, or the next attempt.
use Rattle.std.proofs.Common.{◌≡◌, ℕ, zero, suc, ◌+◌, ◌*◌, ◌<◌, ◌≤◌, sym, ap, ◌∙◌, subst, refl, arith, inl, inr, true, false, List, [], ◌∷◌, ◌++◌, append_assoc, Option, Some, None}
use Rattle.std.specs.Prelude.{◌⊎◌, ◌==◌, slice_get}
use Rattle.std.proofs.Math.Bool.{and-false, and-true}
use Rattle.std.proofs.lemmas.Bool.{cases_eq, eq-eqb, ne_eqb}
use Rattle.std.proofs.lemmas.Bool.Decides.{nat_tests}
use Rattle.std.proofs.lemmas.List.{append-nil}
use Rattle.ih_plan.specs.declared.moves.Move.{Move}
use Rattle.ih_plan.proofs.ReadLemmas.{get-append}
use Rattle.ih_plan.proofs.TestLemmas.{equal-swap}
use Rattle.ih_journal.specs.Tried.{Tried}
use Rattle.ih_journal.specs.declared.entries.Verdict.{Verdict}
use Rattle.ih_journal.specs.declared.settings.Options.{Options}
use Rattle.ih_journal.specs.Attempts.{TryNumber, HasMade, try_after, is_done_after, is_retried, is_stale, last_by}
use Rattle.ih_journal.specs.Base.{Base}
use Rattle.ih_journal.specs.Legal.{attempt_of}
use Rattle.ih_journal.proofs.Growth.{last_by-own}
use Rattle.ih_cellbook.specs.Laws.{HasNoneBy}
use Rattle.ih_cellbook.specs.Offered.{Offered}
use Rattle.ih_cellbook.specs.Offers.{entry_of, next_number}
use Rattle.ih_cellbook.proofs.Staying.{last_by-others}
use Rattle.ih_cellbook.proofs.LastEntries.{next-is, none-last}
use Rattle.ih_turn.specs.Rule.{GoesOn}
use Rattle.ih_desk.specs.Histories.{EndsWith}
use Rattle.ih_desk.specs.Finishing.{AreDrawn}
use Rattle.ih_desk.specs.WorkerLoopState.{WorkerLoopState}
use Rattle.ih_desk.specs.WorkerLoops.{HasAttempted, HasCaughtUp, IsNext, IsWithin}
use Rattle.ih_desk.proofs.HistoryLemmas.{none_by-others}
use Rattle.ih_desk.proofs.Full.{drawn-others, none-both}

-- a worker that goes on, named by what it was before
pub same-within : (b : Base) (each earlier w n : ℕ) (H : List Tried) (x : WorkerLoopState) → each ≡ earlier → w ≡ n → IsWithin b each w H x → IsWithin b earlier n H x
same-within b each earlier w n H x same number within = subst (λ e. IsWithin b e n H x) same (subst (λ v. IsWithin b each v H x) number within)

pub same-caught_up : (b : Base) (each earlier w n : ℕ) (H : List Tried) (x : WorkerLoopState) → each ≡ earlier → w ≡ n → HasCaughtUp b each w H x → HasCaughtUp b earlier n H x
same-caught_up b each earlier w n H x same number caught = subst (λ e. HasCaughtUp b e n H x) same (subst (λ v. HasCaughtUp b each v H x) number caught)

pub same-attempted : (o : Options) (w n number : ℕ) (m : List Move) (v : Verdict) (seen H : List Tried) → w ≡ n → HasAttempted o w number m v seen H
    → HasAttempted o n number m v seen H
same-attempted o w n number m v seen H same tried = subst (λ x. HasAttempted o x number m v seen H) same tried

-- a worker that isn't done has moves to make
some-moves : (o : Options) (l : Option Tried) → is_done_after o l ≡ false → (o.moves == 0) ≡ false
some-moves o None more = more
some-moves o (Some e) more = elim (cases_eq o.moves 0) [
  | inl none ↦ absurd (let always : is_done_after o (Some e) ≡ true = rw (eq-eqb o.moves 0 none) refl in let no : true ≡ false = sym always ∙ more in cc)
  | inr some ↦ ne_eqb o.moves 0 some
]

pub next-number : (o : Options) (H : List Tried) (w n again : ℕ) → IsNext o H w n again → next_number o H w ≡ Some n
next-number o H w n again next = next-is o H w n (last_by w H) refl next.not_done (ap (λ (a : TryNumber). a.number) next.attempt)

module _ (o : Options) (w n again : ℕ) (m : List Move) (v : Verdict) (seen H : List Tried) (next : IsNext o seen w n again) (tried : HasAttempted o w n m v seen H) where
  last : last_by w H ≡ Some tried.entry
  last = ap (last_by w) tried.history
      ∙ (last_by-others w ((seen ++ tried.others) ++ tried.entry ∷ []) tried.later tried.none_later ∙ last_by-own (seen ++ tried.others) tried.entry w tried.worker)

  same-try : tried.entry.again ≡ again
  same-try = tried.again ∙ ap (λ (a : TryNumber). a.again) next.attempt

  -- a stale move that has tries left is tried again
  pub next-try : is_stale v ≡ true → again < o.retries → IsNext o H w n (again + 1)
  next-try stale left =
      let retried : is_retried o tried.entry ≡ true = rw (tried.verdict, stale, same-try) (grind (arith, nat_tests)) in
      record {
        attempt = rw (last, retried, tried.number, same-try) refl;
        not_done = rw (last, some-moves o (last_by w seen) next.not_done, retried) (and-false (tried.entry.number + 1 == o.moves));
      }

  no-retry : (is_stale v ≡ false) ⊎ (o.retries ≤ again) → is_retried o tried.entry ≡ false
  no-retry (inl fresh) = rw (tried.verdict, fresh) refl
  no-retry (inr spent) = rw (tried.verdict, same-try) (grind (arith, nat_tests))

  -- otherwise the next attempt follows
  pub next-move : (is_stale v ≡ false) ⊎ (o.retries ≤ again) → HasMade o H w (n + 1)
  next-move ends =
      let over = no-retry ends in
      record {
        attempt = rw (last, over, tried.number) refl;
        done = rw (last, some-moves o (last_by w seen) next.not_done, over, tried.number) (and-true (n + 1 == o.moves) ∙ equal-swap (n + 1) o.moves);
      }

-- the entry of a drawn move is drawn
pub drawn-attempt : (b : Base) (each w n : ℕ) (m : List Move) (v : Verdict) (seen H : List Tried) → HasAttempted b.options w n m v seen H
    → m ≡ attempt_of b each w n → AreDrawn b each w seen → AreDrawn b each w H
drawn-attempt b each w n m v seen H tried is drawn =
    subst (AreDrawn b each w) (sym tried.history) (drawn-others b each w ((seen ++ tried.others) ++ tried.entry ∷ []) tried.later tried.none_later own-drawn)
  where
    alone : (x e : Tried) (k : ℕ) → slice_get (x ∷ []) k ≡ Some e → x ≡ e
    alone x e zero h = cc
    alone x e (suc k) h = absurd (let no : None ≡ Some e = h in cc)

    own-drawn : AreDrawn b each w ((seen ++ tried.others) ++ tried.entry ∷ [])
    own-drawn k e there own = elim (get-append (seen ++ tried.others) (tried.entry ∷ []) k e there) [
      | inl earlier ↦ drawn-others b each w seen tried.others tried.none drawn k e earlier own
      | inr here ↦
          let same : tried.entry ≡ e = alone tried.entry e here.0 here.1 in
          subst (λ (f : Tried). f.moves ≡ attempt_of b each f.worker f.number) same
          (tried.moves ∙ (is ∙ rw (tried.worker, tried.number) refl))
    ]

-- what a desk says of an offer, as an attempt of its worker
pub attempted : (b : Base) (w n : ℕ) (m : List Move) (offer : Offered) (v : Verdict) (seen H : List Tried) → offer.worker ≡ w → offer.number ≡ n → offer.moves ≡ m
    → EndsWith b offer v seen H → HasAttempted b.options w n m v seen H
attempted b w n m offer v seen H own number move ends =
    let none = subst (λ x. HasNoneBy x ends.others) own ends.none in
    record {
      others = ends.others;
      entry = entry_of b (seen ++ ends.others) offer v;
      later = [];
      history = ends.history ∙ sym (append-nil ((seen ++ ends.others) ++ entry_of b (seen ++ ends.others) offer v ∷ []));
      none = none;
      none_later = λ k e there by. absurd (let no : None ≡ Some e = there in cc);
      worker = own;
      number = number;
      again = ap (λ x. (try_after b.options (last_by x (seen ++ ends.others))).again) own ∙ ap (λ l. (try_after b.options l).again) (last_by-others w seen ends.others none);
      moves = move;
      verdict = refl;
    }

-- so many draws for each attempt, one attempt later
pub none-drawn : (each : ℕ) → 0 ≡ 0 * each
none-drawn each = grind arith

pub one-later : (i each : ℕ) → i * each + each ≡ (i + 1) * each
one-later i each = grind arith

-- an attempt, behind which others added more
pub attempted-later : (o : Options) (w n : ℕ) (m : List Move) (v : Verdict) (H G F : List Tried) → HasAttempted o w n m v H G → GoesOn (λ e. e.worker) w G F → HasAttempted o w n m v H F
attempted-later o w n m v H G F tried goes = record {
  others = tried.others;
  entry = tried.entry;
  later = tried.later ++ goes.others;
  history = goes.history ∙ (ap (λ X. X ++ goes.others) tried.history ∙ append_assoc ((H ++ tried.others) ++ tried.entry ∷ []) tried.later goes.others);
  none = tried.none;
  none_later = none-both w tried.later goes.others tried.none_later (none_by-others w goes.others goes.none);
  worker = tried.worker;
  number = tried.number;
  again = tried.again;
  moves = tried.moves;
  verdict = tried.verdict;
}

-- a worker of whom nothing was seen has made nothing
pub made-none : (o : Options) (w : ℕ) (H : List Tried) → HasNoneBy w H → HasMade o H w 0
made-none o w H none =
    let last : last_by w H ≡ None = last_by-others w [] H none ∙ sym (none-last w) in
    record { attempt = rw last refl; done = rw last refl }

pub drawn-none : (b : Base) (each w : ℕ) (H : List Tried) → HasNoneBy w H → AreDrawn b each w H
drawn-none b each w H none k e there own = absurd (none k e there own)
