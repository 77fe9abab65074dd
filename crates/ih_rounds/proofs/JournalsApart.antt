-- Rounds with one journal are one run of rounds: each starts where the one before it leads.
use Rattle.std.proofs.Common.{◌≡◌, ℕ, zero, suc, ◌+◌, ◌*◌, ◌%◌, ◌<◌, ◌^◌, refl, sym, ap, ◌∙◌, subst, arith, List, [], ◌∷◌, ◌++◌, append_assoc, length, Option, Some, None, ℤ}
use Rattle.std.specs.Prelude.{slice_get}
use Rattle.ih_tables.specs.declared.drafts.Draft.{Draft}
use Rattle.ih_plan.specs.Timetable.{IsPlanOf, Timetable}
use Rattle.ih_journal.specs.declared.entries.Entry.{Entry}
use Rattle.ih_journal.specs.declared.settings.Options.{Options}
use Rattle.ih_journal.specs.Grammar.{IsHistoryOf}
use Rattle.ih_journal.specs.Pieces.{AreShortOptions}
use Rattle.ih_journal.specs.Texts.{ended, heading, lines_from}
use Rattle.ih_journal.specs.Tried.{Tried, tries}
use Rattle.ih_journal.specs.Base.{Base}
use Rattle.ih_journal.specs.Best.{BestIs}
use Rattle.ih_journal.specs.History.{plan_at}
use Rattle.ih_journal.specs.Legal.{IsFull}
use Rattle.ih_journal.proofs.BestLemmas.{best-one, best-or-none}
use Rattle.ih_journal.proofs.Growth.{AreOfMoves, after_entries-plan, legal-moves, plan_at-plan}
use Rattle.ih_journal.proofs.HeadTexts.{heading_lacks, headings_differ, lawful_short}
use Rattle.ih_journal.proofs.JournalTexts.{first_line, not_ended}
use Rattle.ih_journal.proofs.LoneWorkers.{lone-same}
use Rattle.ih_journal.proofs.Mapped.{tries-one}
use Rattle.ih_cellbook.specs.Laws.{IsSearchBase, LegalHistoriesAreInRange}
use Rattle.ih_rounds.specs.Laws.{AreInRange, JournalsTellRoundsApart}
use Rattle.ih_rounds.specs.Rounds.{AreRounds, Round, StartsFrom, base_in, histories, journals, next_start, options_in}
use Rattle.ih_rounds.proofs.Leading.{but-draws}
use Rattle.ih_rounds.proofs.Parting.{rounds-parted}
use Rattle.ih_rounds.proofs.Runs.{lawful-in}

-- ---- each start is a timetable of the instance

-- where a round leads
next-fits : (b : Base) (q : ℕ) (r : Round) (best : Option (ℕ × ℤ)) → IsPlanOf b.instance r.start → AreOfMoves b.instance (tries r.history)
    → IsPlanOf b.instance (next_start (base_in b q r) (tries r.history) best)
next-fits b q r None start moves = after_entries-plan b.instance r.start (tries r.history) start moves
next-fits b q r (Some best) start moves = plan_at-plan (base_in b q r) (tries r.history) best.0 start moves

module _ (b : Base) (rs : List Round) (legal : AreRounds b rs) (fits : IsPlanOf b.instance b.start) where
  starts-fit : (q : ℕ) (P : Timetable) → StartsFrom b rs q P → IsPlanOf b.instance P
  starts-fit zero P is = subst (IsPlanOf b.instance) (sym is) fits
  starts-fit (suc q) P (r, best, here, found, is) =
      let round = legal q r here in
      let moves : AreOfMoves b.instance (tries r.history) = legal-moves (base_in b q r) 1 (tries r.history) round.full.legal in
      subst (IsPlanOf b.instance) (sym is) (next-fits b q r best (starts-fit q r.start round.start) moves)

  pub rounds-fit : (q : ℕ) (r : Round) → slice_get rs q ≡ Some r → IsPlanOf b.instance r.start
  rounds-fit q r here = starts-fit q r.start (legal q r here).start

-- ---- so a search may have its options and begin there, and their histories are in range

seed-in : (b : Base) (q : ℕ) → (options_in b.options q).seed < 2 ^ 64
seed-in b q = omega arith

pub search-in : (b : Base) (rs : List Round) → IsSearchBase b → AreRounds b rs → (q : ℕ) (r : Round) → slice_get rs q ≡ Some r
    → IsSearchBase (base_in b q r)
search-in b rs search legal q r here = record {
  valid = search.valid;
  base = record { start = rounds-fit b rs legal search.base.start q r here; lawful = lawful-in b.options q search.base.lawful };
  seed = seed-in b q;
}

in-range : LegalHistoriesAreInRange → (b : Base) (rs : List Round) → IsSearchBase b → AreRounds b rs → AreInRange b rs
in-range law b rs search legal q r here =
    let full = (legal q r here).full in
    law (base_in b q r) r.history (search-in b rs search legal q r here) (but-draws (base_in b q r) (tries r.history) full.legal)

-- ---- two runs

-- a history leads to one place
one-next : (b : Base) (H : List Tried) (x y : Option (ℕ × ℤ)) → BestIs b H x → BestIs b H y → next_start b H x ≡ next_start b H y
one-next b H None None one other = refl
one-next b H None (Some y) one other = absurd (best-or-none b H y.0 other.0 one)
one-next b H (Some x) None one other = absurd (best-or-none b H x.0 one.0 other)
one-next b H (Some x) (Some y) one other = ap (plan_at b H) (best-one b H x.0 y.0 one.0 other.0)

-- rounds with equal starts and equal histories
round-same : (r s : Round) → r.start ≡ s.start → r.history ≡ s.history → r ≡ s
round-same r s start history =
    ap (λ (t : Timetable × List Entry). let round : Round = record { start = t.0; history = t.1 } in round)
    (let both : (r.start, r.history) ≡ (s.start, s.history) = rw (start, history) refl in both)

-- lists of as many rounds that agree at each place
all-agree : (rs ss : List Round) → length rs ≡ length ss → ((q : ℕ) (r s : Round) → slice_get rs q ≡ Some r → slice_get ss q ≡ Some s → r ≡ s)
    → rs ≡ ss
all-agree [] [] same agree = refl
all-agree [] (s ∷ ss) same agree = absurd (omega (arith, same))
all-agree (r ∷ rs) [] same agree = absurd (omega (arith, same))
all-agree (r ∷ rs) (s ∷ ss) same agree =
    rw (agree 0 r s refl refl, all-agree rs ss (omega (arith, same)) (λ q x y here there. agree (suc q) x y here there)) refl

-- as many rounds over b, where equal starts have equal histories
module _ (b : Base) (rs ss : List Round) (left : AreRounds b rs) (right : AreRounds b ss)
    (same : (q : ℕ) (r s : Round) → slice_get rs q ≡ Some r → slice_get ss q ≡ Some s → r.start ≡ s.start → r.history ≡ s.history) where
  one-start : (q : ℕ) (P Q : Timetable) → StartsFrom b rs q P → StartsFrom b ss q Q → P ≡ Q
  one-start zero P Q one other = one ∙ sym other
  one-start (suc q) P Q (r, x, here, found, is) (s, y, there, best, also) =
      let start = one-start q r.start s.start (left q r here).start (right q s there).start in
      let round = round-same r s start (same q r s here there start) in
      is ∙ (one-next (base_in b q r) (tries r.history) x y found (subst (λ (t : Round). BestIs (base_in b q t) (tries t.history) y) (sym round) best)
      ∙ (ap (λ (t : Round). next_start (base_in b q t) (tries t.history) y) round ∙ sym also))

  rounds-agree : length rs ≡ length ss → rs ≡ ss
  rounds-agree many = all-agree rs ss many (λ q r s here there.
      let start = one-start q r.start s.start (left q r here).start (right q s there).start in
      round-same r s start (same q r s here there start))

-- ---- with equal histories

history-same : (rs ss : List Round) (q : ℕ) (r s : Round) → histories rs ≡ histories ss → slice_get rs q ≡ Some r → slice_get ss q ≡ Some s
    → r.history ≡ s.history
history-same [] ss q r s same here there = absurd (let no : None ≡ Some r = here in cc)
history-same (x ∷ xs) [] q r s same here there = absurd (let no : None ≡ Some s = there in cc)
history-same (x ∷ xs) (y ∷ ys) zero r s same here there =
    let first : x.history ≡ y.history = cc in
    let left : x ≡ r = cc in
    let right : y ≡ s = cc in
    ap (λ (t : Round). t.history) (sym left) ∙ (first ∙ ap (λ (t : Round). t.history) right)
history-same (x ∷ xs) (y ∷ ys) (suc q) r s same here there =
    let rest : histories xs ≡ histories ys = cc in
    history-same xs ys q r s rest here there

as-many : (rs ss : List Round) → histories rs ≡ histories ss → length rs ≡ length ss
as-many [] [] same = refl
as-many [] (s ∷ ss) same = absurd (let no : [] ≡ s.history ∷ histories ss = same in cc)
as-many (r ∷ rs) [] same = absurd (let no : r.history ∷ histories rs ≡ [] = same in cc)
as-many (r ∷ rs) (s ∷ ss) same = ap suc (as-many rs ss (let rest : histories rs ≡ histories ss = cc in rest))

-- ---- two runs that were given the same

same-base : LegalHistoriesAreInRange → (b : Base) (rs ss : List Round) → IsSearchBase b → AreRounds b rs → AreRounds b ss
    → journals b.options 0 rs ≡ journals b.options 0 ss → rs ≡ ss
same-base law b rs ss search left right h =
    let same = rounds-parted b rs ss search.valid (in-range law b rs search left) (in-range law b ss search right) h in
    rounds-agree b rs ss left right (λ q r s here there start. history-same rs ss q r s same here there) (as-many rs ss same)

-- ---- two runs over an instance

-- the first round has the options as they are
first-options : (o : Options) → o.seed < 2 ^ 64 → options_in o 0 ≡ o
first-options o small = let same : (o.seed + 64 * 0) % 2 ^ 64 ≡ o.seed = omega arith in ap (λ s. record o { seed = s }) same

some-journal : (o : Options) (r : Round) (rs : List Round) → journals o 0 (r ∷ rs) ≡ [] → ⊥
unfolding journals
some-journal o r rs h =
    not_ended (heading (options_in o 0)) (lines_from (options_in o 0) 0 r.history ++ journals o 1 rs)
    (sym (append_assoc (ended (heading (options_in o 0))) (lines_from (options_in o 0) 0 r.history) (journals o 1 rs)) ∙ h)

-- the first heading tells them
one-options : (o p : Options) (r s : Round) (rs ss : List Round) → AreShortOptions (options_in o 0) → AreShortOptions (options_in p 0)
    → journals o 0 (r ∷ rs) ≡ journals p 0 (s ∷ ss) → options_in o 0 ≡ options_in p 0
unfolding journals
one-options o p r s rs ss left right h =
    let front = lines_from (options_in o 0) 0 r.history in
    let back = lines_from (options_in p 0) 0 s.history in
    let whole = sym (append_assoc (ended (heading (options_in o 0))) front (journals o 1 rs)) ∙ (h ∙ append_assoc (ended (heading (options_in p 0))) back (journals p 1 ss)) in
    let cut = first_line (heading (options_in o 0)) (heading (options_in p 0)) (front ++ journals o 1 rs) (back ++ journals p 1 ss) (heading_lacks _ left) (heading_lacks _ right) whole in
    headings_differ _ _ left right cut.0

short-first : (b : Base) → IsSearchBase b → AreShortOptions (options_in b.options 0)
short-first b search = lawful_short (options_in b.options 0) (lawful-in b.options 0 search.base.lawful) (seed-in b 0)

module _ (law : LegalHistoriesAreInRange) (b c : Base) (one : IsSearchBase b) (other : IsSearchBase c) (same : b.instance ≡ c.instance) where
  run-histories : (rs ss : List Round) → AreRounds b rs → AreRounds c ss → b.options ≡ c.options → journals b.options 0 rs ≡ journals c.options 0 ss
      → histories rs ≡ histories ss
  run-histories rs ss left right options h =
      let In : Draft → Options → Type 0 = λ I o. (q : ℕ) (s : Round) → slice_get ss q ≡ Some s → IsHistoryOf I (options_in o q) s.history in
      let there : In b.instance b.options = subst (λ (I : Draft). In I b.options) (sym same) (subst (In c.instance) (sym options) (in-range law c ss other right)) in
      rounds-parted b rs ss one.valid (in-range law b rs one left) there (h ∙ ap (λ o. journals o 0 ss) (sym options))

  two-runs : (rs ss : List Round) → AreRounds b rs → AreRounds c ss → journals b.options 0 rs ≡ journals c.options 0 ss
      → (histories rs ≡ histories ss) × (0 < length rs → b.options ≡ c.options)
  unfolding journals
  two-runs [] [] left right h = (refl, λ some. absurd (omega arith))
  two-runs [] (s ∷ ss) left right h = absurd (some-journal c.options s ss (sym h))
  two-runs (r ∷ rs) [] left right h = absurd (some-journal b.options r rs h)
  two-runs (r ∷ rs) (s ∷ ss) left right h =
      let first = one-options b.options c.options r s rs ss (short-first b one) (short-first c other) h in
      let options : b.options ≡ c.options = sym (first-options b.options one.seed) ∙ (first ∙ first-options c.options other.seed) in
      (run-histories (r ∷ rs) (s ∷ ss) left right options h, λ some. options)

pub rounds-differ : LegalHistoriesAreInRange → JournalsTellRoundsApart
rounds-differ law b c rs ss one other same left right h =
    let both = two-runs law b c one other same rs ss left right h in (
      both.0,
      both.1,
      λ is.
          same-base law b rs ss one left (subst (λ (d : Base). AreRounds d ss) (sym is) right) (h ∙ ap (λ (d : Base). journals d.options 0 ss) (sym is)),
    )

-- ---- with one worker

pub lone-rounds : (b : Base) (rs ss : List Round) → b.options.workers ≡ 1 → AreRounds b rs → AreRounds b ss → length rs ≡ length ss → rs ≡ ss
lone-rounds b rs ss alone left right many = rounds-agree b rs ss left right one-history many
  where
    one-history : (q : ℕ) (r s : Round) → slice_get rs q ≡ Some r → slice_get ss q ≡ Some s → r.start ≡ s.start → r.history ≡ s.history
    one-history q r s here there start =
        tries-one r.history s.history
        (lone-same (base_in b q s) 1 (tries r.history) (tries s.history) alone
        (subst (λ (P : Timetable). IsFull (base_in b q (record { start = P; history = r.history })) 1 (tries r.history)) start (left q r here).full)
        (right q s there).full)
