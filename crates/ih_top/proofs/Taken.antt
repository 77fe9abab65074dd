-- Lines of a journal that are taken one by one, and the histories that are taken from it.
use Rattle.std.proofs.Common.{◌≡◌, ◌∙◌, ℕ, ◌+◌, sym, ap, subst, inl, arith, List, [], ◌∷◌, ◌++◌, append_assoc, length, ap₂, inr, Option}
use Rattle.std.specs.Prelude.{Result, Ok, Err, IfErr}
use Rattle.std.proofs.lemmas.List.{append-nil}
use Rattle.ih_top.specs.Below.Wards.{IsValid, JournalRefusal}
use Rattle.ih_top.specs.Below.Searches.{AreLegal, Base, Entry, IsBase, IsFull, IsNextLine, IsRefusedFor, Options, Tried, ended, line_text, tries}
use Rattle.ih_journal.specs.Texts.{lines_from}
use Rattle.ih_journal.proofs.Growth.{legal-none}
use Rattle.ih_top.specs.JournalLines.{Begins, HasLine, HasNoLineFeed, IsRefusedAt, IsRestRefused}
use Rattle.ih_top.proofs.FirstLines.{no-line-in, one-line}
use Rattle.ih_top.specs.declared.output.BestOutput.{BestOutput}
use Rattle.ih_top.specs.Histories.{IsSound}
use Rattle.ih_top.specs.Laws.{RefusedLinesAreNotFull}
use Rattle.ih_top.specs.JournalFiles.{IsHeadedBy}
use Rattle.ih_top.specs.JournalUses.{IsLinesFor}
use Rattle.ih_top.specs.declared.journals.JournalUse.TheVariants.{Replay, Salvage}
use Rattle.ih_top.specs.declared.outcome.JournalOutcome.TheVariants.{Refused, Taken}
use Rattle.ih_top.specs.Outputs.{HasBestOutput, HasBestSaid, IsBestSaid}
use Rattle.ih_top.specs.Texts.{done_text, salvaged_line, salvaged_text}

-- the lines of one entry more
pub lines-more : (o : Options) (k : ℕ) (H : List Entry) (e : Entry) → lines_from o k (H ++ e ∷ []) ≡ lines_from o k H ++ ended (line_text o (k + length H) e)
unfolding lines_from
lines-more o k [] e = append-nil (ended (line_text o k e)) ∙ ap (λ n. ended (line_text o n e)) (omega arith)
lines-more o k (d ∷ H) e =
    ap (λ rest. ended (line_text o k d) ++ rest) (lines-more o (k + 1) H e ∙ ap (λ n. lines_from o (k + 1) H ++ ended (line_text o n e)) (omega arith))
    ∙ sym (append_assoc (ended (line_text o k d)) (lines_from o (k + 1) H) (ended (line_text o (k + length (d ∷ H)) e)))

-- the next line is taken
pub joins-more : (b : Base) (H : List Entry) (bytes rest line more : List ℕ) (e : Entry) → bytes ≡ lines_from b.options 0 H ++ rest → HasLine rest line more
    → IsNextLine b H line e → bytes ≡ lines_from b.options 0 (H ++ e ∷ []) ++ more
joins-more b H bytes rest line more e joins has next =
    let place : length H ≡ 0 + length H = omega arith in
    let text : line ≡ line_text b.options (0 + length H) e = next.text ∙ ap (λ n. line_text b.options n e) place in
    joins
    ∙ (ap (λ r. lines_from b.options 0 H ++ r) (has.joins ∙ ap (λ l. ended l ++ more) text)
    ∙ (sym (append_assoc (lines_from b.options 0 H) (ended (line_text b.options (0 + length H) e)) more)
    ∙ ap (λ l. l ++ more) (sym (lines-more b.options 0 H e))))

-- nothing more is taken of bytes without a line feed
pub begins-unended : (b : Base) (H : List Entry) (bytes rest : List ℕ) → AreLegal b 1 (tries H) → bytes ≡ lines_from b.options 0 H ++ rest → HasNoLineFeed rest
    → Begins b bytes H rest
begins-unended b H bytes rest legal joins lacks = record {
  legal = legal;
  joins = joins;
  longest = λ line more e has next. no-line-in rest line more lacks has;
}

-- nothing more is taken where the next line isn't that of an entry that may come next
pub begins-refused : (b : Base) (H : List Entry) (bytes rest line more : List ℕ) → AreLegal b 1 (tries H) → bytes ≡ lines_from b.options 0 H ++ rest → HasLine rest line more
    → ((e : Entry) → IsNextLine b H line e → ⊥) → Begins b bytes H rest
begins-refused b H bytes rest line more legal joins has never = record {
  legal = legal;
  joins = joins;
  longest = λ other left e also next. never e (subst (λ l. IsNextLine b H l e) (one-line rest other line left more also has).0 next);
}

-- where a line is refused, the journal is
pub refused-line : (b : Base) (H : List Entry) (bytes rest line more : List ℕ) (e : JournalRefusal) → Begins b bytes H rest → HasLine rest line more
    → e.line ≡ length H + 2 → IsRefusedFor b H line e.reason → IsRefusedAt b bytes H e
refused-line b H bytes rest line more e begins has number why = record { rest = rest; begins = begins; line = number; reason = inl (line, more, has, why) }

-- where the lines end too early or too late, the journal is refused
pub refused-end : {S : Type 0} (b : Base) (H : List Entry) (bytes rest : List ℕ) (r : Result S JournalRefusal) → Begins b bytes H rest
    → IfErr r (λ e. e.line ≡ length H + 2) → IfErr r (λ e. IsRestRefused b H rest e.reason) → IfErr r (IsRefusedAt b bytes H)
refused-end b H bytes rest (Ok s) begins number why = tt
refused-end b H bytes rest (Err e) begins number why = record { rest = rest; begins = begins; line = number; reason = why }

-- before any line
pub joins-none : (o : Options) (H : List Entry) (bytes : List ℕ) → H ≡ [] → bytes ≡ lines_from o 0 H ++ bytes
unfolding lines_from
joins-none o H bytes none = ap (λ es. lines_from o 0 es ++ bytes) (sym none)

pub legal-nothing : (b : Base) (H : List Entry) → H ≡ [] → AreLegal b 1 (tries H)
legal-nothing b H none = subst (λ es. AreLegal b 1 (tries es)) (sym none) (legal-none b 1)

-- a best that is said to be that of so many lines
pub salvaged-best : (b : Base) (H : List Tried) (n : ℕ) (o s : BestOutput) → n ≡ length H → IsBestSaid done_text b H o → s.solution.items ≡ o.solution.items
    → s.text.items ≡ salvaged_line n ++ o.text.items → IsBestSaid salvaged_text b H s
salvaged-best b H n o s count best solution text = record {
  place = best.place;
  best = best.best;
  solution = solution ∙ best.solution;
  text = text ∙ ap₂ (λ k t. salvaged_line k ++ t) count best.text;
}

module _ (b c : Base) (same : b ≡ c) (bytes : List ℕ) (H : List Entry) where
  pub full-lines : IsFull b 1 (tries H) → IsSound b (tries H) → bytes ≡ lines_from b.options 0 H
      → (best : Option BestOutput) → HasBestOutput c (tries H) best → IsLinesFor Replay c bytes (Taken best)
  unfolding IsLinesFor
  full-lines full sound whole best output = λ s x headed. record {
    base = c;
    history = H;
    taken_is = record {
      headed = subst (IsHeadedBy s x c) (subst (λ (y : Base). bytes ≡ lines_from y.options 0 H) same whole) headed;
      full = subst (λ (y : Base). IsFull y 1 (tries H)) same full;
      sound = subst (λ (y : Base). IsSound y (tries H)) same sound;
    };
    output = output;
  }

  pub refused-lines : (e : JournalRefusal) → RefusedLinesAreNotFull → IsValid c.instance → IsBase c → IsRefusedAt b bytes H e
      → IsLinesFor Replay c bytes (Refused e)
  unfolding IsLinesFor
  refused-lines e law valid base refused = λ s x headed.
      let here = subst (λ (y : Base). IsRefusedAt y bytes H e) same refused in
      inr (record { base = c; history = H; bytes = bytes; headed = headed; refused = here; none = law c bytes H e valid base here })

  pub salvaged-lines : (rest : List ℕ) → Begins b bytes H rest → IsSound b (tries H)
      → (best : Option BestOutput) → HasBestSaid salvaged_text c (tries H) best → IsLinesFor Salvage c bytes (Taken best)
  unfolding IsLinesFor
  salvaged-lines rest begins sound best output = λ s x headed. record {
    base = c;
    history = H;
    taken_is = record {
      bytes = bytes;
      rest = rest;
      headed = headed;
      begins = subst (λ (y : Base). Begins y bytes H rest) same begins;
      sound = subst (λ (y : Base). IsSound y (tries H)) same sound;
    };
    output = output;
  }
