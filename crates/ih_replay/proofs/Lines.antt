-- Lines of entries: the line of an entry that may come next passes each check.
use Rattle.std.proofs.Common.{◌≡◌, ◌∙◌, ℕ, ◌<◌, refl, arith, sym, subst, false, List, [], ◌∷◌, length}
use Rattle.ih_tables.specs.Valid.{IsValid}
use Rattle.ih_plan.specs.Draws.{move_of}
use Rattle.ih_journal.specs.declared.entries.Entry.{Entry}
use Rattle.ih_journal.specs.Tried.{Tried, tried}
use Rattle.ih_tables.specs.declared.journal_refusals.Reason.{Reason}
use Rattle.ih_tables.specs.declared.journal_refusals.Reason.TheVariants.{Heading, Extra, Grammar, Place, Worker, Number, Try, Seen, Move as Move_reason, Price, Verdict as Verdict_reason, Early}
use Rattle.ih_journal.specs.Attempts.{is_done}
use Rattle.ih_journal.specs.Base.{Base}
use Rattle.ih_journal.specs.Grammar.{IsLineOf}
use Rattle.ih_journal.specs.Legal.{AreLegal, IsLegal}
use Rattle.ih_journal.specs.Texts.{line_text}
use Rattle.ih_journal.proofs.InRange.{limits}
use Rattle.ih_journal.proofs.LineTexts.{lines_differ}
use Rattle.ih_journal.proofs.Mapped.{attempt-one}
use Rattle.ih_cellbook.specs.Keeping.{IsBase}
use Rattle.ih_cellbook.specs.Legal.{AreLegalButDraws}
use Rattle.ih_cellbook.proofs.EntryLimits.{next-below}
use Rattle.ih_cellbook.proofs.Ranges.{entry-in, entry-of, short}
use Rattle.ih_replay.specs.Refusals.{FitsIn, Passes}
use Rattle.ih_replay.proofs.Attempts.{number-of}

-- ---- legal entries

pub legal-but : (b : Base) (H : List Tried) → AreLegal b 1 H → AreLegalButDraws b H
legal-but b H legal k e there = (legal k e there).entry

module _ (b : Base) (H : List Tried) (valid : IsValid b.instance) (base : IsBase b) (history : AreLegal b 1 H) where
  module _ (e : Entry) (legal : IsLegal b 1 H (tried e)) where
    pub going : (e.worker < b.options.workers) × (is_done b.options H e.worker ≡ false)
    going = (legal.entry.worker, (next-below b H e.worker (record { number = e.number; again = e.again }) (legal-but b H history) legal.entry.attempt).2)

  -- ---- the next line

  module _ (line : List ℕ) (e : Entry) (legal : IsLegal b 1 H (tried e)) (text : line ≡ line_text b.options (length H) e) where
    pub line-of : IsLineOf b.instance b.options (length H) e line
    line-of = record {
      place = (let few = short b H valid base (legal-but b H history) in omega (arith, few));
      entry = entry-of b.instance b.options e (entry-in b H valid base (legal-but b H history) (tried e) legal.entry);
      text = text;
    }

    one : (k : ℕ) (f : Entry) → IsLineOf b.instance b.options k f line → (k ≡ length H) × (f ≡ e)
    one k f of = lines_differ b.instance b.options k (length H) f e line (limits b.instance valid) of line-of

    fits : (r : Reason) → FitsIn b H (length H) e r
    fits Heading = tt
    fits Extra = tt
    fits Grammar = tt
    fits Place = refl
    fits Worker = going e legal
    fits Number = number-of b.options H e.worker (record { number = e.number; again = e.again }) legal.entry.attempt
    fits Try = legal.entry.attempt
    fits Seen = (legal.entry.seen, legal.entry.after_own)
    fits Move_reason =
        let drawn : e.mv ∷ [] ≡ move_of b.instance b.options.seed e.worker e.number ∷ [] = legal.drawn ∙ attempt-one b e.worker e.number in
        cc
    fits Price = legal.entry.price
    fits Verdict_reason = legal.entry.verdict
    fits Early = tt

    says : (r : Reason) (k : ℕ) (f : Entry) → IsLineOf b.instance b.options k f line → FitsIn b H k f r
    says r k f of =
        let same = one k f of in
        subst (λ j. FitsIn b H j f r) (sym same.0) (subst (λ g. FitsIn b H (length H) g r) (sym same.1) (fits r))

    pub next-passes : (r : Reason) → Passes b H line r
    next-passes Heading = says Heading
    next-passes Extra = (e.worker, going e legal)
    next-passes Grammar = (length H, e, line-of)
    next-passes Place = says Place
    next-passes Worker = says Worker
    next-passes Number = says Number
    next-passes Try = says Try
    next-passes Seen = says Seen
    next-passes Move_reason = says Move_reason
    next-passes Price = says Price
    next-passes Verdict_reason = says Verdict_reason
    next-passes Early = says Early
