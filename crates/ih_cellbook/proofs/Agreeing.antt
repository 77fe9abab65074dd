-- The timetables of a legal history agree with the start on the frozen choices.
use Rattle.std.proofs.Common.{◌≡◌, ℕ, zero, suc, refl, sym, ap, ◌∙◌, subst, Bool, true, false, List, take, inl, inr}
use Rattle.std.specs.Prelude.{if◌then◌else◌, int_lt}
use Rattle.std.specs.List.{list_any}
use Rattle.ih_tables.specs.declared.bills.Bill.{Bill}
use Rattle.ih_tables.specs.Bills.{score}
use Rattle.ih_plan.specs.declared.moves.Move.{Move}
use Rattle.ih_plan.specs.Timetable.{IsPlanOf}
use Rattle.ih_journal.specs.Tried.{Tried}
use Rattle.ih_journal.specs.declared.entries.Verdict.{Verdict}
use Rattle.ih_journal.specs.declared.entries.Verdict.TheVariants.{Accepted, Declined, Frozen}
use Rattle.ih_journal.specs.Settings.{theta}
use Rattle.ih_journal.specs.Base.{Base}
use Rattle.ih_plan.specs.Frozen.{is_frozen_write}
use Rattle.ih_journal.specs.Frozen.{AgreesBefore, is_frozen}
use Rattle.ih_journal.specs.History.{after_entries, is_accepted, plan_after, plan_at}
use Rattle.ih_journal.specs.Legal.{IsLegalButDraw, first_touched, stale_or_accepted, verdict_on}
use Rattle.ih_journal.proofs.Freezing.{agrees-start, agrees-entry}
use Rattle.ih_journal.proofs.Growth.{AreOfMoves, after_entries-plan, plan_after-more, take-get}
use Rattle.ih_cellbook.specs.Legal.{AreLegalButDraws}
use Rattle.ih_cellbook.proofs.Committing.{accepted-is, legal_but-moves}
use Rattle.ih_cellbook.proofs.Exact.{accepted-local}
use Rattle.ih_cellbook.proofs.EntryLimits.{take-one}
use Rattle.std.specs.Prelude.{drop}

-- what is accepted wasn't frozen where it was priced
free-seen : (b : Base) (H : List Tried) (number seen : ℕ) (m : List Move) (price : Bill) → verdict_on b H number seen m price ≡ Accepted → is_frozen b (plan_at b H seen) m ≡ false
unfolding verdict_on
free-seen b H number seen m price = by_case (is_frozen b (plan_at b H seen) m)
    (if int_lt (theta b.options number) (score b.options.hard b.instance.weights price) then Declined else stale_or_accepted b H seen (first_touched b.instance (plan_at b H seen) (drop seen H) m))
  where
    by_case : (f : Bool) (v : Verdict) → (if f then Frozen else v) ≡ Accepted → f ≡ false
    by_case true v h = absurd (let no : Frozen ≡ Accepted = h in cc)
    by_case false v h = refl

-- nor is it at its place
free-there : (b : Base) (H : List Tried) (e : Tried) → IsPlanOf b.instance b.start → AreOfMoves b.instance H → IsLegalButDraw b H e
    → is_accepted e.verdict ≡ true → is_frozen b (plan_after b H) e.moves ≡ false
unfolding is_frozen
free-there b H e start moves legal on =
    let verdict = legal.verdict in
    let accepted : verdict_on b H e.number e.seen e.moves e.price ≡ Accepted = sym verdict ∙ accepted-is e.verdict on in
    let local = accepted-local b H e.number e.seen e.moves e.price start moves legal.move accepted in
    ap (list_any (is_frozen_write b.start b.freeze)) local.expanded ∙ free-seen b H e.number e.seen e.moves e.price accepted

front-moves : (b : Base) (H : List Tried) (k : ℕ) → AreLegalButDraws b H → AreOfMoves b.instance (take k H)
front-moves b H k legal j e h = legal_but-moves b H legal j e (take-get H k j e h)

pub legal-agrees : (b : Base) (H : List Tried) → IsPlanOf b.instance b.start → AreLegalButDraws b H → (k : ℕ) → AgreesBefore b (plan_at b H k)
unfolding after_entries
legal-agrees b H start legal zero = agrees-start b
legal-agrees b H start legal (suc k) = elim (take-one H k) [
  | inl more ↦
      let moves = front-moves b H k legal in
      let one = legal k more.0 more.1.0 in
      let there = plan_after-more b (take k H) more.0 in
      subst (λ G. AgreesBefore b (plan_after b G)) (sym more.1.1)
      (subst (AgreesBefore b) (sym there)
      (agrees-entry b (plan_after b (take k H)) more.0 (after_entries-plan b.instance b.start (take k H) start moves) one.move (legal-agrees b H start legal k)
      (free-there b (take k H) more.0 start moves one)))
  | inr end ↦ subst (λ G. AgreesBefore b (plan_after b G)) (sym end) (legal-agrees b H start legal k)
]
