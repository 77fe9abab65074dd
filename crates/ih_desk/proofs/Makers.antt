-- What a seat of a desk made: the book was opened without entries, so nothing of its history stood there before.
use Rattle.std.proofs.Common.{◌≡◌, ℕ, zero, suc, ◌+◌, ◌<◌, ◌∙◌, ap, sym, subst, refl, arith, true, cond, List, [], ◌∷◌, ◌++◌, length, length-append, drop, Some, None}
use Rattle.std.specs.Prelude.{◌==◌, count_by}
use Rattle.std.proofs.lemmas.Bool.{eq-eqb}
use Rattle.std.proofs.lemmas.List.Sums.{sum_by-cons}
use Rattle.ih_turn.specs.declared.rule.TurnRule.{TurnRule}
use Rattle.ih_turn.specs.declared.turn.RuledTurn.{RuledTurn}
use Rattle.ih_turn.specs.Rule.{GoesOn}
use Rattle.ih_turn.specs.Seats.{history, number_of, made_count, opened_with, turns_left, IsSeatOf}
use Rattle.ih_journal.specs.Tried.{Tried}
use Rattle.ih_journal.specs.Base.{Base}
use Rattle.ih_journal.specs.declared.entries.Verdict.{Verdict}
use Rattle.ih_cellbook.specs.Offered.{Offered}
use Rattle.ih_cellbook.specs.BookState.{BookState}
use Rattle.ih_cellbook.specs.Laws.{HasNoneBy}
use Rattle.ih_cellbook.specs.Legal.{AreLegalButDraws}
use Rattle.ih_desk.specs.Histories.{EndsWith}
use Rattle.ih_desk.specs.Turns.{HasLooked, HasOffered}
use Rattle.ih_desk.proofs.HistoryLemmas.{legal-same}
use Rattle.ih_desk.specs.Desks.{Desk, DeskSeat, IsDesk, IsSeatAt, base_of, kept_book, worker_count}

pub made-all : {P : Type 0} (turn : RuledTurn BookState P Tried Base kept_book) (seat : DeskSeat) → (opened_with turn).entries ≡ [] → IsSeatOf turn seat
    → made_count seat ≡ count_by (λ e. e.worker == number_of seat) (history seat)
made-all turn seat empty own =
    ap (λ s. count_by (λ (e : Tried). e.worker == seat.token.me.0.number) (drop s (history seat))) (own.1.started ∙ ap length empty)
    ∙ ap (λ n. count_by (λ (e : Tried). e.worker == n) (history seat)) (sym seat.number_is)

-- a seat that comes back is one of the desk's
pub seat-at : (desk : Desk) → IsDesk desk → (turn : RuledTurn BookState (TurnRule BookState) Tried Base kept_book) (seat : DeskSeat) → turn ≡ desk.turn
    → IsSeatOf turn seat → number_of seat < worker_count desk
    → AreLegalButDraws (base_of desk) (history seat) → IsSeatAt desk seat
seat-at desk opened turn seat same own number legal = record {
  stands = opened;
  own = there;
  number = number;
  legal = legal;
  made = made-all desk.turn seat opened.opened there;
}
  where
    there : IsSeatOf desk.turn seat
    there = subst (λ t. IsSeatOf t seat) same own

-- A seat that comes back: what its turn was taken and given back with, and what was kept then.
module _ (desk : Desk) (before after : DeskSeat) (own : IsSeatAt desk before) (turn : RuledTurn BookState (TurnRule BookState) Tried Base kept_book) (n m l : ℕ)
    (took : (turn ≡ desk.turn) × (n ≡ number_of before) × (m ≡ made_count before) × (l + 1 ≡ turns_left before))
    (back : IsSeatOf turn after) (gave : (number_of after ≡ n) × (turns_left after ≡ l))
    (kept : BookState) (base : kept.base ≡ base_of desk) (list : history after ≡ kept.entries)
    (shown : BookState) (same : shown ≡ kept) (legal : AreLegalButDraws shown.base shown.entries) where
  back-own : IsSeatAt desk after
  back-own =
      seat-at desk own.stands turn after took.0 back (subst (λ k. k < worker_count desk) (sym (gave.0 ∙ took.1)) own.number)
      (legal-same shown.base (base_of desk) shown.entries (history after) (ap (λ (k : BookState). k.base) same ∙ base) (ap (λ (k : BookState). k.entries) same ∙ sym list) legal)

  back-left : turns_left after + 1 ≡ turns_left before
  back-left = let had = took.3 in let has = gave.1 in omega (arith, had, has)

  pub looked : (first : List Tried) → first ≡ kept.entries → made_count after + length first ≡ m + length kept.entries
      → GoesOn (λ e. e.worker) (number_of before) (history before) kept.entries → HasLooked desk before after
  looked first whole made goes =
      let long = ap length whole in
      let had = took.2 in
      record {
        own = back-own;
        number = gave.0 ∙ took.1;
        goes_on = subst (GoesOn (λ e. e.worker) (number_of before) (history before)) (sym list) goes;
        made = omega (arith, long, made, had);
        left = back-left;
      }

  pub has-offered : (o : Offered) (v : Verdict) (first lent : List Tried) (e : Tried) → first ≡ lent → kept.entries ≡ lent ++ e ∷ []
      → made_count after + length first ≡ m + length kept.entries → EndsWith (base_of desk) o v (history before) (history after) → HasOffered desk o v before after
  has-offered o v first lent e whole added made ends =
      let long = ap length whole in
      let more = ap length added ∙ length-append lent (e ∷ []) in
      let had = took.2 in
      record { own = back-own; number = gave.0 ∙ took.1; ends = ends; made = omega (arith, long, more, made, had); left = back-left }

none-counted : (w : ℕ) (es : List Tried) → count_by (λ e. e.worker == w) es ≡ 0 → HasNoneBy w es
none-counted w [] none k e there own = absurd (let no : None ≡ Some e = there in cc)
none-counted w (x ∷ xs) none zero e there own =
    let first : x ≡ e = cc in
    let counted : (x.worker == w) ≡ true = eq-eqb x.worker w (ap (λ (f : Tried). f.worker) first ∙ own) in
    let sum = sum_by-cons (λ (f : Tried). cond {A = ℕ} (f.worker == w) 1 0) x xs in
    let one : cond {A = ℕ} (x.worker == w) 1 0 ≡ 1 = rw counted refl in
    absurd (omega (arith, sum, one))
none-counted w (x ∷ xs) none (suc k) e there own =
    let sum = sum_by-cons (λ (f : Tried). cond {A = ℕ} (f.worker == w) 1 0) x xs in
    none-counted w xs (omega (arith, sum)) k e there own

-- a seat that has made nothing has seen nothing of its worker
pub none-made : (desk : Desk) (seat : DeskSeat) → IsSeatAt desk seat → made_count seat ≡ 0 → HasNoneBy (number_of seat) (history seat)
none-made desk seat own none = none-counted (number_of seat) (history seat) (sym own.made ∙ none)
