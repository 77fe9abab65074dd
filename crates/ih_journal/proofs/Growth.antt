-- Histories that grow by one entry at their end.
use Rattle.std.proofs.Common.{◌≡◌, ℕ, zero, suc, ◌+◌, ◌<◌, ◌≤◌, refl, sym, ap, ◌∙◌, arith, subst, inl, inr, Bool, true, false, List, [], ◌∷◌, ◌++◌, length, length-append, take, drop, Option, Some, None}
use Rattle.std.specs.Prelude.{◌&&◌, ◌==◌, if◌then◌else◌, slice_get, find, int_lt}
use Rattle.std.specs.List.{range_with_len}
use Rattle.std.proofs.Math.Bool.{and-true}
use Rattle.std.proofs.Math.Seq.{take-append_seam}
use Rattle.std.proofs.lemmas.List.{take-append-le, take_all, drop_all}
use Rattle.std.proofs.lemmas.Bool.{eq-eqb, ne_eqb}
use Rattle.ih_tables.specs.declared.drafts.Draft.{Draft}
use Rattle.ih_tables.specs.declared.bills.Bill.{Bill}
use Rattle.ih_tables.specs.Bills.{score}
use Rattle.ih_plan.specs.Timetable.{Timetable, IsPlanOf}
use Rattle.ih_plan.specs.declared.moves.Move.{Move}
use Rattle.ih_plan.specs.Cells.{cell_at, cell_count}
use Rattle.ih_plan.proofs.Series.{after_all-plan}
use Rattle.ih_plan.specs.Series.{AreMoves, after_all, all_touch}
use Rattle.ih_plan.proofs.TestLemmas.{equal-swap}
use Rattle.ih_plan.proofs.ReadLemmas.{get-more}
use Rattle.ih_journal.specs.Tried.{Tried}
use Rattle.ih_journal.specs.declared.entries.Verdict.{Verdict}
use Rattle.ih_journal.specs.declared.entries.Verdict.TheVariants.{Accepted, Declined, Frozen}
use Rattle.ih_journal.specs.Settings.{theta}
use Rattle.ih_journal.specs.Base.{Base}
use Rattle.ih_journal.specs.Frozen.{is_frozen}
use Rattle.ih_journal.specs.declared.settings.Options.{Options}
use Rattle.ih_journal.specs.Attempts.{TryNumber, try_after, last_by, else_last, when_by, is_stale, is_done, next_try, HasMade}
use Rattle.ih_journal.specs.History.{is_accepted, after_entry, after_entries, plan_after, plan_at, touched_since}
use Rattle.ih_journal.specs.Legal.{verdict_on, first_touched, IsLegal, AreLegal}
use Rattle.ih_journal.proofs.HistoryLemmas.{after_entries-append}

-- ---- timetables

pub plan_after-more : (b : Base) (H : List Tried) (e : Tried) → plan_after b (H ++ e ∷ []) ≡ after_entry b.instance (plan_after b H) e
unfolding after_entries
plan_after-more b H e = after_entries-append b.instance b.start H (e ∷ [])

-- what was stays as it was
pub plan_at-earlier : (b : Base) (H es : List Tried) (k : ℕ) → k ≤ length H → plan_at b (H ++ es) k ≡ plan_at b H k
plan_at-earlier b H es k h = ap (plan_after b) (take-append-le k H es h)

pub plan_at-end : (b : Base) (H : List Tried) (k : ℕ) → length H ≤ k → plan_at b H k ≡ plan_after b H
plan_at-end b H k h = ap (plan_after b) (take_all k H h)

pub length-more : (H : List Tried) (e : Tried) → length (H ++ e ∷ []) ≡ length H + 1
length-more H e = length-append H (e ∷ [])

-- the moves of a history are in range
abbrev pub AreOfMoves : Draft → List Tried → Type 0
AreOfMoves I H = (k : ℕ) (e : Tried) → slice_get H k ≡ Some e → AreMoves I e.moves

pub after_entry-plan : (I : Draft) (P : Timetable) (e : Tried) → IsPlanOf I P → AreMoves I e.moves → IsPlanOf I (after_entry I P e)
after_entry-plan I P e plan fits = by_case (is_accepted e.verdict)
  where
    by_case : (b : Bool) → IsPlanOf I (if b then after_all I P e.moves else P)
    by_case true = after_all-plan I P e.moves plan fits
    by_case false = plan

pub after_entries-plan : (I : Draft) (P : Timetable) (H : List Tried) → IsPlanOf I P → AreOfMoves I H → IsPlanOf I (after_entries I P H)
unfolding after_entries
after_entries-plan I P [] plan moves = plan
after_entries-plan I P (e ∷ es) plan moves =
    after_entries-plan I (after_entry I P e) es (after_entry-plan I P e plan (moves 0 e refl)) (λ k f h. moves (suc k) f h)

pub legal-moves : (b : Base) (each : ℕ) (H : List Tried) → AreLegal b each H → AreOfMoves b.instance H
legal-moves b each H legal k e h = (legal k e h).entry.move

pub take-get : (H : List Tried) (n k : ℕ) (e : Tried) → slice_get (take n H) k ≡ Some e → slice_get H k ≡ Some e
take-get H zero k e h = absurd (let no : None ≡ Some e = h in cc)
take-get [] (suc n) k e h = h
take-get (x ∷ xs) (suc n) zero e h = h
take-get (x ∷ xs) (suc n) (suc k) e h = take-get xs n k e h

pub plan_at-plan : (b : Base) (H : List Tried) (k : ℕ) → IsPlanOf b.instance b.start → AreOfMoves b.instance H → IsPlanOf b.instance (plan_at b H k)
plan_at-plan b H k start moves = after_entries-plan b.instance b.start (take k H) start (λ j e h. moves j e (take-get H k j e h))

-- ---- entries

pub legal-none : (b : Base) (each : ℕ) → AreLegal b each []
legal-none b each k e h = absurd (let no : None ≡ Some e = h in cc)

pub legal-more : (b : Base) (each : ℕ) (H : List Tried) (e : Tried) → AreLegal b each H → IsLegal b each H e → AreLegal b each (H ++ e ∷ [])
legal-more b each H e legal one k f h = elim (get-more H e f k h) [
  | inl earlier ↦
      let short : k ≤ length H = (let less = earlier.0 in omega arith) in
      subst (λ G. IsLegal b each G f) (sym (take-append-le k H (e ∷ []) short)) (legal k f earlier.1)
  | inr last ↦
      let here : length H ≡ k = sym last.0 in
      let whole : take k (H ++ e ∷ []) ≡ H = take-append-le k H (e ∷ []) (omega arith) ∙ take_all k H (omega arith) in
      subst (λ G. IsLegal b each G f) (sym whole) (subst (IsLegal b each H) last.1 one)
]

get-joined : (H es : List Tried) (e : Tried) → slice_get (H ++ e ∷ es) (length H) ≡ Some e
get-joined [] es e = refl
get-joined (x ∷ xs) es e = get-joined xs es e

-- the next entry of a legal history
pub next-legal : (b : Base) (each : ℕ) (H es : List Tried) (e : Tried) → AreLegal b each (H ++ e ∷ es) → IsLegal b each H e
next-legal b each H es e legal = subst (λ G. IsLegal b each G e) (take-append_seam H (e ∷ es)) (legal (length H) e (get-joined H es e))

-- ---- attempts

else_last-none : (o : Option Tried) → else_last o None ≡ o
else_last-none None = refl
else_last-none (Some e) = refl

else_last-more : (a b c : Option Tried) → else_last (else_last a b) c ≡ else_last a (else_last b c)
else_last-more None b c = refl
else_last-more (Some e) b c = refl

pub last_by-more : (w : ℕ) (H : List Tried) (e : Tried) → last_by w (H ++ e ∷ []) ≡ else_last (when_by w e) (last_by w H)
unfolding last_by
last_by-more w [] e = sym (else_last-none (when_by w e))
last_by-more w (x ∷ xs) e = rw (last_by-more w xs e) (else_last-more (when_by w e) (last_by w xs) (when_by w x))

pub last_by-own : (H : List Tried) (e : Tried) (w : ℕ) → e.worker ≡ w → last_by w (H ++ e ∷ []) ≡ Some e
last_by-own H e w own = last_by-more w H e ∙ rw (eq-eqb e.worker w own) refl

pub last_by-other : (H : List Tried) (e : Tried) (w : ℕ) → (e.worker ≡ w → ⊥) → last_by w (H ++ e ∷ []) ≡ last_by w H
last_by-other H e w other = last_by-more w H e ∙ rw (ne_eqb e.worker w other) refl

pub has_made-none : (b : Base) (w : ℕ) → HasMade b.options [] w 0
unfolding last_by
has_made-none b w = record { attempt = refl; done = refl }

pub has_made-all : (b : Base) (H : List Tried) (w : ℕ) → HasMade b.options H w b.options.moves → is_done b.options H w ≡ true
unfolding is_done
has_made-all b H w made = made.done ∙ eq-eqb b.options.moves b.options.moves refl

pub has_made-own : (b : Base) (H : List Tried) (e : Tried) (w i : ℕ) → e.worker ≡ w → e.number ≡ i → is_stale e.verdict ≡ false → i < b.options.moves → HasMade b.options (H ++ e ∷ []) w (i + 1)
has_made-own b H e w i own number fresh h =
    let some : (b.options.moves == 0) ≡ false = ne_eqb b.options.moves 0 (λ z. omega arith) in
    let last = last_by-own H e w own in
    record {
      attempt = rw (last, fresh, number) refl;
      done = rw (last, some, fresh, number) (and-true (i + 1 == b.options.moves) ∙ equal-swap (i + 1) b.options.moves);
    }

-- a worker with a next attempt isn't done, and the attempt is what follows its last entry
pub attempt-parts : (o : Options) (G : List Tried) (w : ℕ) (a : TryNumber) → next_try o G w ≡ Some a → (is_done o G w ≡ false) × (try_after o (last_by w G) ≡ a)
unfolding next_try
attempt-parts o G w a = by_case (is_done o G w)
  where
    by_case : (t : Bool) → (if t then None else Some (try_after o (last_by w G))) ≡ Some a → (t ≡ false) × (try_after o (last_by w G) ≡ a)
    by_case true h = absurd (let no : None ≡ Some a = h in cc)
    by_case false h = (refl, let e : Some (try_after o (last_by w G)) ≡ Some a = h in cc)

-- ---- verdicts on what nobody came before

none-changed : (I : Draft) (P : Timetable) (m : List Move) (xs : List ℕ) → find (λ n. all_touch I P m (cell_at I n) && touched_since I P [] (cell_at I n)) xs ≡ None
unfolding touched_since
none-changed I P m [] = refl
none-changed I P m (x ∷ xs) = rw (and-false (all_touch I P m (cell_at I x))) (none-changed I P m xs)
  where
    and-false : (t : Bool) → (t && false) ≡ false
    and-false true = refl
    and-false false = refl

-- frozen, too dear, or else accepted
abbrev pub verdict_at_once : Base → Timetable → ℕ → List Move → Bill → Verdict
verdict_at_once b P number m price =
    if is_frozen b P m then Frozen
    else if int_lt (theta b.options number) (score b.options.hard b.instance.weights price) then Declined
    else Accepted

pub verdict_on-end : (b : Base) (H : List Tried) (number seen : ℕ) (m : List Move) (price : Bill) → seen ≡ length H
    → verdict_on b H number seen m price ≡ verdict_at_once b (plan_after b H) number m price
unfolding verdict_on first_touched
verdict_on-end b H number seen m price end =
    let none : drop seen H ≡ [] = drop_all seen H (omega arith) in
    let here = plan_at-end b H seen (omega arith) in
    rw (none, here, none-changed b.instance (plan_after b H) m (range_with_len 0 (cell_count b.instance))) refl

pub verdict_at_once-fresh : (b : Base) (P : Timetable) (number : ℕ) (m : List Move) (price : Bill) → is_stale (verdict_at_once b P number m price) ≡ false
verdict_at_once-fresh b P number m price = by_case (is_frozen b P m) (int_lt (theta b.options number) (score b.options.hard b.instance.weights price))
  where
    by_case : (f d : Bool) → is_stale (if f then Frozen else if d then Declined else Accepted) ≡ false
    by_case true d = refl
    by_case false true = refl
    by_case false false = refl
