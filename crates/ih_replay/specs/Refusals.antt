-- Why a line isn't taken: what is checked of it, in order.
use Rattle.std.specs.Prelude.{◌≡◌, ℕ, ◌<◌, ◌≤◌, false, List, [], ◌∷◌, ◌++◌, length, Some}
use Rattle.std.specs.List.{AllByRecursion}
use Rattle.ih_plan.specs.Draws.{move_of}
use Rattle.ih_plan.specs.Series.{price_of_all}
use Rattle.ih_journal.specs.declared.entries.Entry.{Entry}
use Rattle.ih_journal.specs.Tried.{Tried, tried, tries}
use Rattle.ih_tables.specs.declared.journal_refusals.Reason.{Reason}
use Rattle.ih_tables.specs.declared.journal_refusals.Reason.TheVariants.{Extra, Grammar, Place, Worker, Number, Try, Seen, Move, Price, Verdict}
use Rattle.ih_journal.specs.Attempts.{is_done, next_try}
use Rattle.ih_journal.specs.Base.{Base}
use Rattle.ih_journal.specs.Grammar.{IsLineOf}
use Rattle.ih_journal.specs.History.{plan_at}
use Rattle.ih_journal.specs.Legal.{IsLegal, verdict_on}
use Rattle.ih_journal.specs.Texts.{line_text}
use Rattle.ih_cellbook.specs.Offers.{HasSeenOwn, next_number}

-- The line is the text of the entry, which may come next.
pub record IsNextLine (b : Base) (H : List Entry) (line : List ℕ) (e : Entry) : Type 0 where
  pub legal : IsLegal b 1 (tries H) (tried e)
  pub text : line ≡ line_text b.options (length H) e

-- worker w has attempts left
abbrev pub IsGoing : Base → List Tried → ℕ → Type 0
IsGoing b H w = (w < b.options.workers) × (is_done b.options H w ≡ false)

-- What is checked of an entry and the place that its line names, by the reason that is given where it doesn't hold.
abbrev pub FitsIn : Base → List Tried → ℕ → Entry → Reason → Type 0
FitsIn b H k e Place = k ≡ length H
FitsIn b H k e Worker = IsGoing b H e.worker
FitsIn b H k e Number = next_number b.options H e.worker ≡ Some e.number
FitsIn b H k e Try = next_try b.options H e.worker ≡ Some (record { number = e.number; again = e.again })
FitsIn b H k e Seen = (e.seen ≤ length H) × HasSeenOwn H e.worker e.seen
FitsIn b H k e Move = e.mv ≡ move_of b.instance b.options.seed e.worker e.number
FitsIn b H k e Price = e.price ≡ price_of_all b.instance (plan_at b H e.seen) (e.mv ∷ [])
FitsIn b H k e Verdict = e.verdict ≡ verdict_on b H e.number e.seen (e.mv ∷ []) e.price
FitsIn b H k e other = Unit {0}

-- What is checked of a line.
abbrev pub Passes : Base → List Tried → List ℕ → Reason → Type 0
Passes b H line Extra = (w : ℕ) × IsGoing b H w
Passes b H line Grammar = (k : ℕ) × (e : Entry) × IsLineOf b.instance b.options k e line
Passes b H line reason = (k : ℕ) (e : Entry) → IsLineOf b.instance b.options k e line → FitsIn b H k e reason

-- the reasons in the order in which the checks are made: of an entry those of its attempt come first, then those of
-- what follows from it
abbrev pub of_attempt : List Reason
of_attempt = Worker ∷ Number ∷ Try ∷ Seen ∷ Move ∷ []

abbrev pub of_offer : List Reason
of_offer = Price ∷ Verdict ∷ []

abbrev pub of_entry : List Reason
of_entry = of_attempt ++ of_offer

abbrev pub of_place : List Reason
of_place = Grammar ∷ Place ∷ []

abbrev pub in_order : List Reason
in_order = Extra ∷ of_place ++ of_entry

-- The reason is the first of a list whose check isn't passed.
pub record IsFirstOf (Passed : Reason → Type 0) (reasons : List Reason) (reason : Reason) : Type 0 where
  pub earlier : List Reason
  pub later : List Reason
  pub listed : reasons ≡ earlier ++ reason ∷ later
  pub passed : AllByRecursion Passed earlier
  pub fails : Passed reason → ⊥

-- the reason for which a line is refused
abbrev pub IsRefusedFor : Base → List Entry → List ℕ → Reason → Type 0
IsRefusedFor b H line reason = IsFirstOf (Passes b (tries H) line) in_order reason
