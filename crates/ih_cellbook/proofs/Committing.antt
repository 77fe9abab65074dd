-- One entry more: its verdict by counters is the one by entries, it is legal, and the counters stay the versions.
use Rattle.std.proofs.Common.{◌≡◌, ℕ, ◌+◌, ◌<◌, ◌≤◌, refl, arith, sym, ap, ◌∙◌, subst, Bool, true, false, List, [], ◌∷◌, ◌++◌, length, take, drop, inl, inr, Option, Some, None}
use Rattle.std.specs.Prelude.{if◌then◌else◌, ◌&&◌, ◌==◌, not, int_lt, map, option_map}
use Rattle.std.proofs.lemmas.List.{take-append-le, take_all}
use Rattle.ih_tables.specs.declared.drafts.Draft.{Draft}
use Rattle.ih_tables.specs.Sizes.{sizes_of}
use Rattle.ih_tables.specs.Bills.{score}
use Rattle.ih_plan.specs.declared.moves.Move.{Move}
use Rattle.ih_plan.specs.Timetable.{Timetable, IsPlanOf}
use Rattle.ih_plan.specs.Sums.{bit, is_listed, which_below}
use Rattle.ih_plan.specs.Cells.{cell_at, cell_count}
use Rattle.ih_plan.proofs.ListedBelow.{has, has-listed, has-which_below, which_below-has, tagged-keys}
use Rattle.ih_plan.specs.Series.{all_touch, footprint_of_all}
use Rattle.ih_plan.proofs.ReadLemmas.{get-more}
use Rattle.ih_journal.specs.Tried.{Tried}
use Rattle.ih_journal.specs.declared.entries.Verdict.{Verdict}
use Rattle.ih_journal.specs.declared.entries.Verdict.TheVariants.{Accepted, Declined, Stale, Frozen}
use Rattle.ih_journal.specs.declared.settings.Options.{Options}
use Rattle.ih_journal.specs.Attempts.{TryNumber, try_after, last_by, is_done, next_try}
use Rattle.ih_journal.specs.Base.{Base}
use Rattle.ih_journal.specs.Settings.{theta}
use Rattle.ih_journal.specs.History.{is_accepted, plan_at, plan_after, version}
use Rattle.ih_journal.specs.Legal.{IsLegalButDraw, verdict_on, stale_or_accepted, first_touched}
use Rattle.ih_journal.proofs.Growth.{AreOfMoves}
use Rattle.ih_footprint.proofs.Ranked.{cell_in-in}
use Rattle.ih_cellbook.specs.Offered.{Offered}
use Rattle.ih_cellbook.specs.Counters.{first_differing, is_compared, stale_by, verdict_by_counters, risen_where}
use Rattle.ih_cellbook.specs.Legal.{AreLegalButDraws}
use Rattle.ih_cellbook.specs.Offers.{IsRightOffer, entry_of, next_number, reads_after}
use Rattle.ih_cellbook.proofs.Exact.{accepted-local}
use Rattle.ih_cellbook.proofs.Finds.{find-pairs, find-same_listed, find-listed}
use Rattle.ih_cellbook.proofs.Versions.{rose, first_risen, version-more}

-- each counter is the version of its cell
abbrev pub AreVersionsBy : Base → List Tried → (ℕ → ℕ) → Type 0
AreVersionsBy b H counter = (n : ℕ) → n < cell_count b.instance → counter n ≡ version b H (cell_at b.instance n)

-- the footprint's numbers are below the count, and it has just the cells touched
pub footprint-below : (I : Draft) (P : Timetable) (m : List Move) (n : ℕ) → has n (footprint_of_all I P m) ≡ true → n < cell_count I
unfolding footprint_of_all
footprint-below I P m n h = (which_below-has (cell_count I) n (λ i. all_touch I P m (cell_at I i)) h).0

pub footprint-touches : (I : Draft) (P : Timetable) (m : List Move) (n : ℕ) → n < cell_count I → is_listed n (footprint_of_all I P m) ≡ all_touch I P m (cell_at I n)
unfolding footprint_of_all
footprint-touches I P m n h =
    sym (has-listed n (which_below (cell_count I) (λ i. all_touch I P m (cell_at I i)))) ∙ has-which_below (cell_count I) n (λ i. all_touch I P m (cell_at I i)) h

-- the cells that were read
pub reads-cells : (b : Base) (H : List Tried) (m : List Move) → map (λ (r : ℕ × ℕ). r.0) (reads_after b H m) ≡ footprint_of_all b.instance (plan_after b H) m
reads-cells b H m = tagged-keys (λ n. version b H (cell_at b.instance n)) (footprint_of_all b.instance (plan_after b H) m)

-- ---- verdicts

module _ (b : Base) (H : List Tried) (counter : ℕ → ℕ) (seen : ℕ) (m : List Move) (versions : AreVersionsBy b H counter) where
  first-is : first_differing counter (reads_after b (take seen H) m)
      ≡ option_map (λ n. (n, version b (take seen H) (cell_at b.instance n))) (first_touched b.instance (plan_at b H seen) (drop seen H) m)
  first-is =
      let foot = footprint_of_all b.instance (plan_at b H seen) m in
      find-pairs (λ (r : ℕ × ℕ). not (counter r.0 == r.1)) (λ n. version b (take seen H) (cell_at b.instance n)) (footprint_of_all b.instance (plan_at b H seen) m)
      ∙ ap (option_map (λ n. (n, version b (take seen H) (cell_at b.instance n))))
      (find-same_listed (λ n. not (counter n == version b (take seen H) (cell_at b.instance n))) (λ n. rose b H seen (cell_at b.instance n)) (footprint_of_all b.instance (plan_at b H seen) m)
      (λ n h. ap (λ k. not (k == version b (take seen H) (cell_at b.instance n))) (versions n (footprint-below b.instance (plan_at b H seen) m n h)))
      ∙ first_risen b H seen m)

  first-below : (n : ℕ) → first_touched b.instance (plan_at b H seen) (drop seen H) m ≡ Some n → n < cell_count b.instance
  first-below n e =
      footprint-below b.instance (plan_at b H seen) m n
      (find-listed (λ i. rose b H seen (cell_at b.instance i)) (footprint_of_all b.instance (plan_at b H seen) m) n (first_risen b H seen m ∙ e))

  stale-same : stale_by b.instance counter (first_differing counter (reads_after b (take seen H) m))
      ≡ stale_or_accepted b H seen (first_touched b.instance (plan_at b H seen) (drop seen H) m)
  stale-same = ap (stale_by b.instance counter) first-is ∙ by_case (first_touched b.instance (plan_at b H seen) (drop seen H) m) refl
    where
      by_case : (o : Option ℕ) → first_touched b.instance (plan_at b H seen) (drop seen H) m ≡ o
          → stale_by b.instance counter (option_map (λ n. (n, version b (take seen H) (cell_at b.instance n))) o) ≡ stale_or_accepted b H seen o
      by_case None e = refl
      by_case (Some n) e = ap (Stale (cell_at b.instance n) (version b (take seen H) (cell_at b.instance n))) (versions n (first-below n e))

-- Comparing counters with the versions read gives the verdict that looking through the entries gives.
pub verdict-same : (b : Base) (H : List Tried) (counter : ℕ → ℕ) (o : Offered) → AreVersionsBy b H counter → IsRightOffer b H o
    → verdict_by_counters b.instance b.options counter o ≡ verdict_on b H o.number o.seen o.moves o.price
unfolding verdict_by_counters verdict_on
verdict-same b H counter o versions right =
    by_case o.frozen (int_lt (theta b.options o.number) (score b.options.hard b.instance.weights o.price)) right.reads
    ∙ ap (λ f. if f then Frozen else told) right.frozen
  where
    told : Verdict
    told =
        if int_lt (theta b.options o.number) (score b.options.hard b.instance.weights o.price) then Declined
        else stale_or_accepted b H o.seen (first_touched b.instance (plan_at b H o.seen) (drop o.seen H) o.moves)

    by_case : (f d : Bool) → ((not f && not d) ≡ true → o.reads.pairs ≡ reads_after b (take o.seen H) o.moves)
        → (if f then Frozen else if d then Declined else stale_by b.instance counter (first_differing counter o.reads.pairs))
        ≡ (if f then Frozen else if d then Declined else stale_or_accepted b H o.seen (first_touched b.instance (plan_at b H o.seen) (drop o.seen H) o.moves))
    by_case true d asked = refl
    by_case false true asked = refl
    by_case false false asked =
        ap (λ reads. stale_by b.instance counter (first_differing counter reads)) (asked refl) ∙ stale-same b H counter o.seen o.moves versions

-- what is accepted was compared
pub accepted-compared : (I : Draft) (options : Options) (counter : ℕ → ℕ) (o : Offered) → is_accepted (verdict_by_counters I options counter o) ≡ true
    → is_compared I options o.frozen o.number o.price ≡ true
unfolding verdict_by_counters
accepted-compared I options counter o =
    by_case o.frozen (int_lt (theta options o.number) (score options.hard I.weights o.price))
  where
    by_case : (f d : Bool) → is_accepted (if f then Frozen else if d then Declined else stale_by I counter (first_differing counter o.reads.pairs)) ≡ true
        → (not f && not d) ≡ true
    by_case true d on = absurd (let no : false ≡ true = on in cc)
    by_case false true on = absurd (let no : false ≡ true = on in cc)
    by_case false false on = refl

-- ---- the entry

pub attempt-is : (o : Options) (H : List Tried) (w n : ℕ) → next_number o H w ≡ Some n
    → next_try o H w ≡ Some (record { number = n; again = (try_after o (last_by w H)).again })
unfolding next_try
attempt-is o H w n = by_case (is_done o H w)
  where
    by_case : (t : Bool) → option_map (λ (a : TryNumber). a.number) (if t then None else Some (try_after o (last_by w H))) ≡ Some n
        → (if t then None else Some (try_after o (last_by w H))) ≡ Some (record { number = n; again = (try_after o (last_by w H)).again })
    by_case true h = absurd (let no : None ≡ Some n = h in cc)
    by_case false h =
        let same : (try_after o (last_by w H)).number ≡ n = (let e : Some (try_after o (last_by w H)).number ≡ Some n = h in cc) in
        ap (λ k. let a : TryNumber = record { number = k; again = (try_after o (last_by w H)).again } in Some a) same

pub entry-legal : (b : Base) (H : List Tried) (o : Offered) (v : Verdict) → IsRightOffer b H o → v ≡ verdict_on b H o.number o.seen o.moves o.price
    → IsLegalButDraw b H (entry_of b H o v)
entry-legal b H o v right verdict = record {
  worker = right.worker;
  attempt = attempt-is b.options H o.worker o.number right.number;
  move = right.move;
  seen = right.seen;
  after_own = right.after_own;
  price = right.price;
  verdict = verdict;
}

pub legal_but-none : (b : Base) → AreLegalButDraws b []
legal_but-none b k e h = absurd (let no : None ≡ Some e = h in cc)

pub legal_but-more : (b : Base) (H : List Tried) (e : Tried) → AreLegalButDraws b H → IsLegalButDraw b H e → AreLegalButDraws b (H ++ e ∷ [])
legal_but-more b H e legal one k f h = elim (get-more H e f k h) [
  | inl earlier ↦
      let short : k ≤ length H = (let less = earlier.0 in omega arith) in
      subst (λ G. IsLegalButDraw b G f) (sym (take-append-le k H (e ∷ []) short)) (legal k f earlier.1)
  | inr last ↦
      let here : length H ≡ k = sym last.0 in
      let whole : take k (H ++ e ∷ []) ≡ H = take-append-le k H (e ∷ []) (omega arith) ∙ take_all k H (omega arith) in
      subst (λ G. IsLegalButDraw b G f) (sym whole) (subst (IsLegalButDraw b H) last.1 one)
]

pub legal_but-moves : (b : Base) (H : List Tried) → AreLegalButDraws b H → AreOfMoves b.instance H
legal_but-moves b H legal k e h = (legal k e h).move

-- ---- the counters

pub accepted-is : (v : Verdict) → is_accepted v ≡ true → v ≡ Accepted
accepted-is Accepted h = refl
accepted-is Declined h = absurd (let no : false ≡ true = h in cc)
accepted-is (Stale c k n) h = absurd (let no : false ≡ true = h in cc)
accepted-is Frozen h = absurd (let no : false ≡ true = h in cc)

-- what an accepted attempt touches at its place it touched where it was priced
touched-there : (b : Base) (H : List Tried) (e : Tried) → IsPlanOf b.instance b.start → AreOfMoves b.instance H → IsLegalButDraw b H e → e.verdict ≡ Accepted
    → (n : ℕ) → n < cell_count b.instance
    → is_listed n (map (λ (r : ℕ × ℕ). r.0) (reads_after b (take e.seen H) e.moves)) ≡ all_touch b.instance (plan_after b H) e.moves (cell_at b.instance n)
touched-there b H e start moves legal accepted n h =
    let verdict = legal.verdict in
    let local = accepted-local b H e.number e.seen e.moves e.price start moves legal.move (sym verdict ∙ accepted) in
    ap (is_listed n) (reads-cells b (take e.seen H) e.moves)
    ∙ footprint-touches b.instance (plan_at b H e.seen) e.moves n h
    ∙ sym (local.touched (cell_at b.instance n) (cell_in-in (sizes_of b.instance) n h))

pub versions-more : (b : Base) (H : List Tried) (e : Tried) (counter : ℕ → ℕ) → IsPlanOf b.instance b.start → AreOfMoves b.instance H → IsLegalButDraw b H e
    → AreVersionsBy b H counter → AreVersionsBy b (H ++ e ∷ []) (risen_where (is_accepted e.verdict) counter (reads_after b (take e.seen H) e.moves))
versions-more b H e counter start moves legal versions n h = by_case (is_accepted e.verdict) refl ∙ sym (version-more b H e (cell_at b.instance n))
  where
    by_case : (t : Bool) → is_accepted e.verdict ≡ t
        → risen_where t counter (reads_after b (take e.seen H) e.moves) n
        ≡ version b H (cell_at b.instance n) + bit (is_accepted e.verdict && all_touch b.instance (plan_after b H) e.moves (cell_at b.instance n))
    by_case false off = let same = versions n h in rw off (omega (arith, same))
    by_case true on =
        let same = versions n h in
        let touched = touched-there b H e start moves legal (accepted-is e.verdict on) n h in
        rw (on, touched, same) refl
