-- Legal histories are in range, and their journals are short and differ.
use Rattle.std.proofs.Common.{◌≡◌, ℕ, zero, suc, ◌<◌, ◌≤◌, ◌^◌, refl, arith, sym, ap, ◌∙◌, subst, Bool, true, false, List, [], ◌∷◌, length, take, drop, Option, Some, None}
use Rattle.std.specs.Prelude.{if◌then◌else◌, int_lt, slice_get}
use Rattle.std.proofs.lemmas.Option.{slice_get_within}
use Rattle.std.proofs.lemmas.List.{length-take, length-map}
use Rattle.ih_tables.specs.declared.bills.Bill.{Bill}
use Rattle.ih_tables.specs.declared.drafts.Draft.{Draft}
use Rattle.ih_tables.specs.Bills.{score}
use Rattle.ih_tables.specs.Sizes.{sizes_of}
use Rattle.ih_tables.specs.Valid.{IsValid}
use Rattle.ih_plan.specs.declared.moves.Move.{Move}
use Rattle.ih_plan.specs.Cells.{cell_at, cell_count}
use Rattle.ih_plan.specs.Series.{AreMoves, after_all, footprint_of_all, price_of_all}
use Rattle.ih_plan.specs.Timetable.{IsPlanOf}
use Rattle.ih_plan.proofs.BillBounds.{change-within}
use Rattle.ih_plan.proofs.Series.{after_all-plan}
use Rattle.ih_footprint.proofs.Ranked.{cell_in-in}
use Rattle.ih_journal.specs.declared.entries.Entry.{Entry}
use Rattle.ih_journal.specs.declared.entries.Verdict.{Verdict}
use Rattle.ih_journal.specs.Tried.{Tried, tried, tries}
use Rattle.ih_journal.specs.declared.entries.Verdict.TheVariants.{Accepted, Declined, Stale, Frozen}
use Rattle.ih_journal.specs.Base.{Base}
use Rattle.ih_journal.specs.Frozen.{is_frozen}
use Rattle.ih_journal.specs.Grammar.{IsEntryOf, IsHistoryOf, IsPrice, IsTriedOf, IsVerdictOf}
use Rattle.ih_journal.specs.History.{plan_at, version}
use Rattle.ih_journal.specs.Legal.{IsLegalButDraw, first_touched, stale_or_accepted, verdict_on}
use Rattle.ih_journal.specs.Settings.{theta}
use Rattle.ih_journal.specs.declared.settings.Options.{Options}
use Rattle.ih_journal.proofs.ChangeDigits.{change-short}
use Rattle.ih_journal.proofs.Growth.{plan_at-plan, take-get}
use Rattle.ih_journal.proofs.InRange.{limits}
use Rattle.ih_journal.proofs.Mapped.{get-mapped}
use Rattle.ih_journal.proofs.JournalTexts.{journals-differ}
use Rattle.ih_journal.proofs.TextLengths.{IsShortPrice, IsShortTried, IsShortVerdict, journal-length}
use Rattle.ih_cellbook.specs.Keeping.{IsBase}
use Rattle.ih_cellbook.specs.Laws.{IsSearchBase, LegalHistoriesAreInRange, LegalJournalsAreShort, JournalsTellSearchesApart}
use Rattle.ih_cellbook.specs.Legal.{AreLegalButDraws}
use Rattle.ih_cellbook.proofs.Committing.{footprint-below, legal_but-moves}
use Rattle.ih_cellbook.proofs.EntryLimits.{legal-few, next-below}
use Rattle.ih_cellbook.proofs.Finds.{find-listed}
use Rattle.ih_cellbook.proofs.Versions.{first_risen, rose, version-most}

verdict-of : (I : Draft) (v : Verdict) → IsShortVerdict I v → IsVerdictOf I v
verdict-of I Accepted h = tt
verdict-of I Declined h = tt
verdict-of I Frozen h = tt
verdict-of I (Stale c seen place) h = (h.0, (let less = h.1 in omega (arith, less)), (let less = h.2 in omega (arith, less)))

-- ---- an entry that may come next

module _ (b : Base) (H : List Tried) (valid : IsValid b.instance) (base : IsBase b) (history : AreLegalButDraws b H) where
  pub short : length H ≤ 10 ^ 6
  short = let few = (legal-few b H history).most in let most = base.lawful.entries in omega (arith, few, most)

  below-found : (seen n : ℕ) (m : List Move) → first_touched b.instance (plan_at b H seen) (drop seen H) m ≡ Some n → n < cell_count b.instance
  below-found seen n m e =
      footprint-below b.instance (plan_at b H seen) m n
      (find-listed (λ i. rose b H seen (cell_at b.instance i)) (footprint_of_all b.instance (plan_at b H seen) m) n (first_risen b H seen m ∙ e))

  version-short : (G : List Tried) (n : ℕ) → length G ≤ 10 ^ 6 → version b G (cell_at b.instance n) < 10 ^ 7
  version-short G n h = let most = version-most b G (cell_at b.instance n) in omega (arith, most, h)

  take-short : (n : ℕ) (G : List Tried) → length G ≤ 10 ^ 6 → length (take n G) ≤ 10 ^ 6
  take-short n G h = let len = length-take n G in omega (arith, len, h)

  stale-in : (seen : ℕ) (m : List Move) (found : Option ℕ) → first_touched b.instance (plan_at b H seen) (drop seen H) m ≡ found
      → IsShortVerdict b.instance (stale_or_accepted b H seen found)
  stale-in seen m None e = tt
  stale-in seen m (Some n) e = (
    cell_in-in (sizes_of b.instance) n (below-found seen n m e),
    version-short (take seen H) n (take-short seen H short),
    version-short H n short,
  )

  verdict-in : (number seen : ℕ) (m : List Move) (price : Bill) → IsShortVerdict b.instance (verdict_on b H number seen m price)
  unfolding verdict_on
  verdict-in number seen m price = by_case (is_frozen b (plan_at b H seen) m) (int_lt (theta b.options number) (score b.options.hard b.instance.weights price))
    where
      by_case : (f d : Bool) → IsShortVerdict b.instance (if f then Frozen else if d then Declined
          else stale_or_accepted b H seen (first_touched b.instance (plan_at b H seen) (drop seen H) m))
      by_case true d = tt
      by_case false true = tt
      by_case false false = stale-in seen m (first_touched b.instance (plan_at b H seen) (drop seen H) m) refl

  module _ (e : Tried) (legal : IsLegalButDraw b H e) where
    below : (e.number < b.options.moves) × (e.again ≤ b.options.retries)
    below = let next = next-below b H e.worker (record { number = e.number; again = e.again }) history legal.attempt in (next.0, next.1)

    before : IsPlanOf b.instance (plan_at b H e.seen)
    before = plan_at-plan b H e.seen base.start (legal_but-moves b H history)

    behind : IsPlanOf b.instance (after_all b.instance (plan_at b H e.seen) e.moves)
    behind = after_all-plan b.instance (plan_at b H e.seen) e.moves before legal.move

    price-in : IsPrice (price_of_all b.instance (plan_at b H e.seen) e.moves)
    price-in = record {
      counts = refl;
      costs = refl;
      small = change-within b.instance (plan_at b H e.seen) (after_all b.instance (plan_at b H e.seen) e.moves) valid before behind;
    }

    -- its line is short
    pub short-in : IsShortTried b.instance (length H) e
    short-in =
        let lawful = base.lawful in
        let workers = lawful.workers in
        let moves = lawful.moves in
        let retries = lawful.retries in
        let worker = legal.worker in
        let number = below.0 in
        let again = below.1 in
        let seen = legal.seen in
        let few = short in
        record {
          place = omega (arith, few);
          worker = omega (arith, worker, workers);
          number = omega (arith, number, moves);
          again = omega (arith, again, retries);
          seen = omega (arith, seen, few);
          move = legal.move;
          price = subst IsShortPrice (sym legal.price)
              (change-short b.instance (plan_at b H e.seen) (after_all b.instance (plan_at b H e.seen) e.moves) valid before behind);
          verdict = subst (IsShortVerdict b.instance) (sym legal.verdict) (verdict-in e.number e.seen e.moves e.price);
        }

    pub entry-in : IsTriedOf b.instance b.options (AreMoves b.instance e.moves) e
    entry-in =
        let few = short-in in
        let worker = few.worker in
        let number = few.number in
        let again = few.again in
        let seen = few.seen in
        let tries = below.1 in
        record {
          worker = omega (arith, worker);
          number = omega (arith, number);
          again = omega (arith, again);
          once = λ none. omega (arith, tries, none);
          seen = omega (arith, seen);
          move = legal.move;
          price = subst IsPrice (sym legal.price) price-in;
          verdict = verdict-of b.instance e.verdict few.verdict;
        }

-- ---- the whole history

take-front : (j k : ℕ) (H : List Tried) → j ≤ k → take j (take k H) ≡ take j H
take-front zero k H h = refl
take-front (suc j) zero H h = absurd (omega arith)
take-front (suc j) (suc k) [] h = refl
take-front (suc j) (suc k) (x ∷ xs) h = ap (λ ys. x ∷ ys) (take-front j k xs (omega arith))

-- what is legal stays so where its end is cut off
legal-front : (b : Base) (H : List Tried) (k : ℕ) → AreLegalButDraws b H → AreLegalButDraws b (take k H)
legal-front b H k legal j e there =
    let inside = slice_get_within (take k H) j e there in
    let len = length-take k H in
    subst (λ G. IsLegalButDraw b G e) (sym (take-front j k H (omega (arith, inside, len)))) (legal j e (take-get H k j e there))

-- each entry of a legal history is short
pub each-short : (b : Base) (H : List Tried) → IsSearchBase b → AreLegalButDraws b H → (k : ℕ) (e : Tried) → slice_get H k ≡ Some e
    → IsShortTried b.instance k e
each-short b H search legal k e there =
    let inside = slice_get_within H k e there in
    let len = length-take k H in
    let place : length (take k H) ≡ k = omega (arith, inside, len) in
    subst (λ n. IsShortTried b.instance n e) place
    (short-in b (take k H) search.valid search.base (legal-front b H k legal) e (legal k e there))

-- and in range
pub each-in : (b : Base) (H : List Tried) → IsSearchBase b → AreLegalButDraws b H → (k : ℕ) (e : Tried) → slice_get H k ≡ Some e
    → IsTriedOf b.instance b.options (AreMoves b.instance e.moves) e
each-in b H search legal k e there =
    entry-in b (take k H) search.valid search.base (legal-front b H k legal) e (legal k e there)

-- ---- a history of single moves

pub entry-of : (I : Draft) (o : Options) (e : Entry) → IsTriedOf I o (AreMoves I (e.mv ∷ [])) (tried e) → IsEntryOf I o e
entry-of I o e h = record {
  worker = h.worker;
  number = h.number;
  again = h.again;
  once = h.once;
  seen = h.seen;
  move = h.move.0;
  price = h.price;
  verdict = h.verdict;
}

module _ (b : Base) (H : List Entry) (search : IsSearchBase b) (legal : AreLegalButDraws b (tries H)) where
  in-range : IsHistoryOf b.instance b.options H
  in-range = record {
    lawful = search.base.lawful;
    seed = search.seed;
    places = (let few = short b (tries H) search.valid search.base legal in let len = length-map H tried in omega (arith, few, len));
    entries = λ k e there.
        entry-of b.instance b.options e (each-in b (tries H) search legal k (tried e) (get-mapped tried H k e there));
  }

pub histories-in-range : LegalHistoriesAreInRange
histories-in-range b H search legal = in-range b H search legal

pub two-journals : JournalsTellSearchesApart
two-journals b c H G one other same legal_H legal_G text =
    journals-differ b.instance one.valid b.options c.options H G (in-range b H one legal_H)
    (subst (λ (I : Draft). IsHistoryOf I c.options G) (sym same) (in-range c G other legal_G)) text

pub journals-short : LegalJournalsAreShort
journals-short b H search legal =
    journal-length b.instance b.options H (limits b.instance search.valid) search.base.lawful search.seed
    (λ k e there. each-short b (tries H) search legal k (tried e) (get-mapped tried H k e there))
