-- The best write of a choice is least, and where nothing is advised no candidate lowers the score.
use Rattle.std.proofs.Common.{◌≡◌, ℕ, zero, suc, refl, sym, ap, ◌∙◌, subst, arith, Bool, true, false, List, [], ◌∷◌, Option, Some, None}
use Rattle.std.specs.Prelude.{pos, ◌≤ℤ◌, int_lt, filter_map, slice_get, if◌then◌else◌}
use Rattle.std.specs.List.{cons_option}
use Rattle.std.proofs.lemmas.Int.{ints}
use Rattle.ih_tables.specs.declared.drafts.Draft.{Draft}
use Rattle.ih_plan.specs.declared.moves.Write.{Write}
use Rattle.ih_plan.specs.Timetable.{Timetable}
use Rattle.ih_fill.specs.Choices.{all_choices}
use Rattle.ih_fill.specs.FirstLeast.{IsFirstLeastOf}
use Rattle.ih_fill.proofs.FirstLeast.{before-at_most}
use Rattle.ih_plan.proofs.TestLemmas.{below, not-below}
use Rattle.ih_advise.specs.declared.choosing.Advice.{Advice}
use Rattle.ih_fill.specs.declared.choices.Choice.{Choice}
use Rattle.ih_replacements.specs.Replacements.{best_write, replacements, value_of}
use Rattle.ih_replacements.proofs.Choices.{best-first}
use Rattle.ih_advise.specs.Advising.{advice, advice_on, advised}
use Rattle.ih_advise.specs.Laws.{IsBestChange, IsChoice, IsReplacement}

best-least : (I : Draft) (hard : ℕ) (P : Timetable) (s : Choice) (w : Write) → IsReplacement I s w
    → value_of I hard P (best_write I hard P s) ≤ℤ value_of I hard P w
best-least I hard P s w is =
    let best = best-first I hard P s in
    before-at_most (value_of I hard P (best_write I hard P s)) (value_of I hard P w) best.0 is.0 (best.1.first is.0 w tt is.1)

best-one : (I : Draft) (hard : ℕ) (P : Timetable) (s : Choice) → IsReplacement I s (best_write I hard P s)
best-one I hard P s = let best = best-first I hard P s in (best.0, best.1.there)

-- ---- lists

none-each : (f : Choice → Option Advice) (ss : List Choice) → filter_map f ss ≡ [] → (k : ℕ) (s : Choice) → slice_get ss k ≡ Some s → f s ≡ None
none-each f [] h k s there = absurd (let no : None ≡ Some s = there in cc)
none-each f (z ∷ zs) h k s there = by_case (f z) refl h k there (λ rest j later. none-each f zs rest j s later)
  where
    by_case : (o : Option Advice) → f z ≡ o → cons_option o (filter_map f zs) ≡ [] → (k : ℕ) → slice_get (z ∷ zs) k ≡ Some s
        → (filter_map f zs ≡ [] → (j : ℕ) → slice_get zs j ≡ Some s → f s ≡ None) → f s ≡ None
    by_case (Some a) e more k there later = absurd (let clash : a ∷ filter_map f zs ≡ [] = more in cc)
    by_case None e rest zero there later = let same : z ≡ s = (let e : Some z ≡ Some s = there in cc) in sym (ap f same) ∙ e
    by_case None e rest (suc j) there later = later rest j there

each-none : (f : Choice → Option Advice) (ss : List Choice) → ((k : ℕ) (s : Choice) → slice_get ss k ≡ Some s → f s ≡ None) → filter_map f ss ≡ []
each-none f [] h = refl
each-none f (z ∷ zs) h = ap (λ o. cons_option o (filter_map f zs)) (h 0 z refl) ∙ each-none f zs (λ k s there. h (suc k) s there)

-- what is found in a list came from one of its choices
found-on : (f : Choice → Option Advice) (ss : List Choice) (k : ℕ) (a : Advice) → slice_get (filter_map f ss) k ≡ Some a
    → (s : Choice) × ((i : ℕ) × (slice_get ss i ≡ Some s)) × (f s ≡ Some a)
found-on f [] k a h = absurd (let no : None ≡ Some a = h in cc)
found-on f (z ∷ zs) k a h = by_case (f z) refl k h (λ j later. found-further (found-on f zs j a later))
  where
    found-further : (s : Choice) × ((i : ℕ) × (slice_get zs i ≡ Some s)) × (f s ≡ Some a) → (s : Choice) × ((i : ℕ) × (slice_get (z ∷ zs) i ≡ Some s)) × (f s ≡ Some a)
    found-further (s, (i, there), is) = (s, (suc i, there), is)

    by_case : (o : Option Advice) → f z ≡ o → (k : ℕ) → slice_get (cons_option o (filter_map f zs)) k ≡ Some a
        → ((j : ℕ) → slice_get (filter_map f zs) j ≡ Some a → (s : Choice) × ((i : ℕ) × (slice_get (z ∷ zs) i ≡ Some s)) × (f s ≡ Some a))
        → (s : Choice) × ((i : ℕ) × (slice_get (z ∷ zs) i ≡ Some s)) × (f s ≡ Some a)
    by_case (Some b) e zero there later = (z, (0, refl), e ∙ there)
    by_case (Some b) e (suc j) there later = later j there
    by_case None e j there later = later j there

-- ---- the laws

-- what is advised on a choice is its best change
best-change : (I : Draft) (hard : ℕ) (P : Timetable) (s : Choice) (a : Advice) → advice_on I hard P s ≡ Some a → IsBestChange I hard P s a
unfolding advice_on
best-change I hard P s a h = by_case (int_lt (value_of I hard P (best_write I hard P s)) (pos 0)) refl h (best-first I hard P s)
  where
    by_case : (t : Bool) → int_lt (value_of I hard P (best_write I hard P s)) (pos 0) ≡ t
        → (if t then Some (advised I hard P (best_write I hard P s)) else None) ≡ Some a
        → IsFirstLeastOf (value_of I hard P) (replacements I s) (best_write I hard P s) → IsBestChange I hard P s a
    by_case true less is best = subst (IsBestChange I hard P s) (let e : Some (advised I hard P (best_write I hard P s)) ≡ Some a = is in cc) (record {
      first = best;
      score = refl;
      lowers = below (value_of I hard P (best_write I hard P s)) (pos 0) less;
      price = refl;
    })
    by_case false dear is best = absurd (let no : None ≡ Some a = is in cc)

pub advice-best : (I : Draft) (hard : ℕ) (P : Timetable) (k : ℕ) (a : Advice) → slice_get (advice I hard P) k ≡ Some a
    → (s : Choice) × IsChoice I s × IsBestChange I hard P s a
advice-best I hard P k a h =
    let found = found-on (advice_on I hard P) (all_choices I) k a h in
    (found.0, found.1, best-change I hard P found.0 a found.2)

pub only-best : (I : Draft) (hard : ℕ) (P : Timetable) → advice I hard P ≡ [] → (s : Choice) (w : Write) → IsChoice I s → IsReplacement I s w
    → pos 0 ≤ℤ value_of I hard P w
unfolding advice_on
only-best I hard P none s w choice candidate = by_case (int_lt (value_of I hard P (best_write I hard P s)) (pos 0)) refl (none-each (advice_on I hard P) (all_choices I) none choice.0 s choice.1)
  where
    by_case : (t : Bool) → int_lt (value_of I hard P (best_write I hard P s)) (pos 0) ≡ t
        → (if t then Some (advised I hard P (best_write I hard P s)) else None) ≡ None → pos 0 ≤ℤ value_of I hard P w
    by_case true less h = absurd (let no : Some (advised I hard P (best_write I hard P s)) ≡ None = h in cc)
    by_case false dear h =
        let over = not-below (value_of I hard P (best_write I hard P s)) (pos 0) dear in
        let most = best-least I hard P s w candidate in
        omega (arith, ints)

pub always-best : (I : Draft) (hard : ℕ) (P : Timetable) → ((s : Choice) (w : Write) → IsChoice I s → IsReplacement I s w → pos 0 ≤ℤ value_of I hard P w)
    → advice I hard P ≡ []
unfolding advice_on
always-best I hard P least = each-none (advice_on I hard P) (all_choices I) (λ k s there. by_case s (int_lt (value_of I hard P (best_write I hard P s)) (pos 0)) refl
    (least s (best_write I hard P s) (k, there) (best-one I hard P s)))
  where
    by_case : (s : Choice) (t : Bool) → int_lt (value_of I hard P (best_write I hard P s)) (pos 0) ≡ t → pos 0 ≤ℤ value_of I hard P (best_write I hard P s)
        → (if t then Some (advised I hard P (best_write I hard P s)) else None) ≡ None
    by_case s true less h = let under = below (value_of I hard P (best_write I hard P s)) (pos 0) less in absurd (omega (arith, ints))
    by_case s false dear h = refl
