-- What a book keeps beside its entries, as it is opened and as an entry is added.
use Rattle.std.proofs.Common.{◌≡◌, ℕ, zero, suc, ◌+◌, ◌<◌, ◌≤◌, ◌^◌, refl, arith, sym, ap, ◌∙◌, subst, Bool, true, false, List, [], ◌∷◌, ◌++◌, length, take, inl, inr, Option, Some, None, ℤ}
use Rattle.std.specs.Prelude.{T, if◌then◌else◌, ◌==◌, int_lt, ◌<ℤ◌, map, All, slice_set, slice_index, replicate, ◌≤ℤ◌}
use Rattle.std.proofs.lemmas.Bool.{cases_eq, cases_lt, eq-eqb, or_left, or_right}
use Rattle.std.proofs.lemmas.Int.{ints}
use Rattle.std.proofs.lemmas.Nat.{mul-le}
use Rattle.std.proofs.lemmas.List.{get_or_past, get_or-set_same, get_or-set_other, length-set, length-map}
use Rattle.std.proofs.lemmas.List.Elements.{All-nil, All-cons}
use Rattle.ih_tables.specs.declared.drafts.Draft.{Draft}
use Rattle.ih_tables.specs.declared.bills.Bill.{Bill}
use Rattle.ih_tables.specs.Bills.{at, IsWithin, add_bills, feasible, cost}
use Rattle.ih_tables.specs.Sizes.{shift_count, room_count, theatre_count, surgeon_count, nurse_count}
use Rattle.ih_tables.specs.Valid.{IsValid}
use Rattle.ih_plan.specs.Timetable.{IsPlanOf}
use Rattle.ih_plan.specs.BillOf.{bill_of, change_of_bill}
use Rattle.ih_plan.specs.Sums.{bit}
use Rattle.ih_plan.specs.Cells.{cell_at, cell_count}
use Rattle.ih_plan.proofs.BillBounds.{bill-within, change-within}
use Rattle.ih_plan.proofs.BillSums.{add-change, sum-within}
use Rattle.ih_plan.proofs.ListedBelow.{has}
use Rattle.ih_plan.proofs.SumLemmas.{sum_below-le, length-which_below}
use Rattle.ih_plan.proofs.Series.{after_all-plan}
use Rattle.ih_plan.specs.Series.{after_all, all_touch, footprint_of_all}
use Rattle.ih_journal.specs.Tried.{Tried}
use Rattle.ih_journal.specs.declared.entries.Verdict.{Verdict}
use Rattle.ih_journal.specs.declared.entries.Verdict.TheVariants.{Accepted}
use Rattle.ih_journal.specs.Settings.{most_entries}
use Rattle.ih_journal.specs.Attempts.{try_after, last_by, next_try}
use Rattle.ih_journal.specs.Base.{Base}
use Rattle.ih_journal.specs.Best.{BestIs, IsFeasibleAt, best_with, cost_at}
use Rattle.ih_journal.specs.History.{after_entries, touches_since, is_accepted, after_entry, plan_after, plan_at, version}
use Rattle.ih_journal.specs.Legal.{IsLegalButDraw}
use Rattle.ih_journal.proofs.BestLemmas.{best-start, best-more}
use Rattle.ih_journal.proofs.Mapped.{map-more}
use Rattle.ih_journal.proofs.Growth.{after_entries-plan, last_by-own, last_by-other, plan_after-more, plan_at-end, plan_at-plan}
use Rattle.ih_cellbook.specs.Offered.{Offered}
use Rattle.ih_cellbook.specs.Counters.{is_compared, times_read, risen_where, verdict_by_counters}
use Rattle.ih_cellbook.specs.Keeping.{IsBase, AreVersions, AreAgain, IsKept}
use Rattle.ih_cellbook.specs.Laws.{AreFew}
use Rattle.ih_cellbook.specs.Offers.{IsJudged, IsRightOffer, entry_of, entry_with, reads_after}
use Rattle.ih_cellbook.proofs.Committing.{accepted-compared, accepted-is, attempt-is, entry-legal, footprint-below, legal_but-moves, legal_but-more, legal_but-none, reads-cells, verdict-same, versions-more}
use Rattle.ih_cellbook.proofs.Exact.{accepted-exact}
use Rattle.ih_cellbook.proofs.ExactPrices.{exact-last}
use Rattle.ih_cellbook.proofs.EntryLimits.{again-few, legal-few, next-below}
use Rattle.ih_cellbook.proofs.TimesRead.{times-once}
use Rattle.ih_cellbook.proofs.Versions.{version-most}

-- ---- how many cells there are

pub few-cells : (I : Draft) → IsValid I → cell_count I ≤ 2 ^ 20
few-cells I valid =
    let days = valid.days.most in
    let shifts : shift_count I ≤ 168 = omega (arith, days) in
    let room_days = mul-le (room_count I) I.days 128 56 valid.rooms.len.most days in
    let theatre_days = mul-le (theatre_count I) I.days 64 56 valid.theatres.len.most days in
    let surgeon_days = mul-le (surgeon_count I) I.days 128 56 valid.surgeons.len.most days in
    let room_shifts = mul-le (room_count I) (shift_count I) 128 168 valid.rooms.len.most shifts in
    let nurse_shifts = mul-le (nurse_count I) (shift_count I) 512 168 valid.nurses.len.most shifts in
    let patients = valid.patients.len.most in
    let occupants = valid.occupants.len.most in
    omega (arith, room_days, theatre_days, surgeon_days, room_shifts, nurse_shifts, patients, occupants)

-- ---- opening

length-zeros : (n : ℕ) → length {A = ℕ} (replicate n 0) ≡ n
length-zeros zero = refl
length-zeros (suc n) = let rest = length-zeros n in omega (arith, rest)

zeros : (n count : ℕ) → slice_index (replicate count 0) n ≡ 0
zeros n zero = refl
zeros zero (suc count) = refl
zeros (suc n) (suc count) = zeros n count

pub kept-none : (b : Base) (cs ns : List ℕ) (now : Bill) (found : Option (ℕ × ℤ)) → IsBase b → cs ≡ replicate (cell_count b.instance) 0 → ns ≡ replicate b.options.workers 0
    → now ≡ bill_of b.instance b.start → found ≡ best_with None 0 (feasible now) (cost b.instance.weights now) → IsKept b [] cs ns now found
unfolding after_entries touches_since last_by
kept-none b cs ns now found base counters again bill best =
    record {
      base = base;
      legal = legal_but-none b;
      versions = record { len = rw counters (length-zeros (cell_count b.instance)); each = λ n h. rw counters (zeros n (cell_count b.instance)) };
      again = record { len = rw again (length-zeros b.options.workers); each = λ w h. rw again (zeros w b.options.workers) };
      bill = bill;
      best = rw best (best-start b (feasible now) (cost b.instance.weights now) (ap feasible (sym bill)) (ap (cost b.instance.weights) (sym bill)));
    }

-- ---- an offer that is right, before it is judged

module _ (b : Base) (H : List Tried) (cs ns : List ℕ) (now : Bill) (found : Option (ℕ × ℤ)) (valid : IsValid b.instance) (kept : IsKept b H cs ns now found) where
  plan-now : IsPlanOf b.instance (plan_after b H)
  plan-now = after_entries-plan b.instance b.start H kept.base.start (legal_but-moves b H kept.legal)

  plan-seen : (k : ℕ) → IsPlanOf b.instance (plan_at b H k)
  plan-seen k = plan_at-plan b H k kept.base.start (legal_but-moves b H kept.legal)

  pub bill-in : IsWithin (10 ^ 11) now
  bill-in = rw kept.bill (bill-within b.instance (plan_after b H) valid plan-now)

  pub history-few : AreFew b H
  history-few = legal-few b H kept.legal

  pub history-short : length H ≤ 10 ^ 6
  history-short = let few = history-few.most in let most = kept.base.lawful.entries in omega (arith, few, most)

  pub counters-small : (n : ℕ) → slice_index cs n ≤ 10 ^ 6
  counters-small n =
      let len = kept.versions.len in
      let short = history-short in
      elim (cases_lt n (cell_count b.instance)) [
        | inl below ↦ let same = kept.versions.each n below in let most = version-most b H (cell_at b.instance n) in omega (arith, same, most, short)
        | inr past ↦ let none = get_or_past cs n 0 (omega arith) in omega (arith, none)
      ]

  pub again-within : (w : ℕ) → w < b.options.workers → slice_index ns w ≤ b.options.retries
  again-within w known =
      let same = kept.again.each w known in
      let few = again-few b H w kept.legal in
      omega (arith, same, few)

  module _ (o : Offered) (right : IsRightOffer b H o) where
    next : next_try b.options H o.worker ≡ Some (record { number = o.number; again = (try_after b.options (last_by o.worker H)).again })
    next = attempt-is b.options H o.worker o.number right.number

    pub number-below : o.number < b.options.moves
    number-below = (next-below b H o.worker (record { number = o.number; again = (try_after b.options (last_by o.worker H)).again }) kept.legal next).0

    pub has-room : length H < most_entries b.options
    has-room = history-few.fewer o.worker right.worker (next-below b H o.worker (record { number = o.number; again = (try_after b.options (last_by o.worker H)).again }) kept.legal next).2

    pub price-in : IsWithin (10 ^ 11) o.price
    price-in = rw right.price (change-within b.instance (plan_at b H o.seen) (after_all b.instance (plan_at b H o.seen) o.moves) valid (plan-seen o.seen)
        (after_all-plan b.instance (plan_at b H o.seen) o.moves (plan-seen o.seen) right.move))

    pub sum-small : IsWithin (10 ^ 12) (add_bills now o.price)
    sum-small = sum-within now o.price bill-in price-in

    all-below : (f : ℕ → ℕ) (n : ℕ) (xs : List ℕ) → ((i : ℕ) → has i xs ≡ true → i < n) → All (λ (r : ℕ × ℕ). r.0 < n) (map (λ i. (i, f i)) xs)
    all-below f n [] h = All-nil (λ (r : ℕ × ℕ). r.0 < n)
    all-below f n (x ∷ xs) h =
        All-cons (λ (r : ℕ × ℕ). r.0 < n) (x, f x) (map (λ i. (i, f i)) xs) (h x (or_left (x == x) (has x xs) (eq-eqb x x refl)))
        (all-below f n xs (λ i there. h i (or_right (x == i) (has i xs) there)))

    module _ (asked : is_compared b.instance b.options o.frozen o.number o.price ≡ true) where
      pub reads-in : All (λ (r : ℕ × ℕ). r.0 < length cs) o.reads.pairs
      reads-in =
          rw (right.reads asked, kept.versions.len)
          (all-below (λ n. version b (take o.seen H) (cell_at b.instance n)) (cell_count b.instance) (footprint_of_all b.instance (plan_at b H o.seen) o.moves)
          (footprint-below b.instance (plan_at b H o.seen) o.moves))

      foot-short : length (footprint_of_all b.instance (plan_at b H o.seen) o.moves) ≤ cell_count b.instance
      unfolding footprint_of_all
      foot-short =
          let len = length-which_below (cell_count b.instance) (λ n. all_touch b.instance (plan_at b H o.seen) o.moves (cell_at b.instance n)) in
          let most = sum_below-le (cell_count b.instance) 1 (λ n. bit (all_touch b.instance (plan_at b H o.seen) o.moves (cell_at b.instance n)))
          (λ n h. bit-most (all_touch b.instance (plan_at b H o.seen) o.moves (cell_at b.instance n))) in
          omega (arith, len, most)
        where
          bit-most : (t : Bool) → bit t ≤ 1
          bit-most true = omega arith
          bit-most false = omega arith

      pub counters-rise : (n : ℕ) → slice_index cs n + length o.reads.pairs < 2 ^ 32
      counters-rise n =
          let small = counters-small n in
          let few = few-cells b.instance valid in
          let short = foot-short in
          let len = length-map {B = ℕ × ℕ} (footprint_of_all b.instance (plan_at b H o.seen) o.moves) (λ n. (n, version b (take o.seen H) (cell_at b.instance n))) in
          let pairs = ap length (right.reads asked) in
          omega (arith, small, few, short, len, pairs)

-- ---- a timetable that was looked at

-- one place more with the timetable after all entries leaves the best as it is
pub best-stays : (b : Base) (H : List Tried) (now : Bill) (found : Option (ℕ × ℤ)) (k : ℕ) → now ≡ bill_of b.instance (plan_after b H) → BestIs b H found
    → best_with found k (feasible now) (cost b.instance.weights now) ≡ found
best-stays b H now None k bill none = rw (bill, ← plan_at-end b H (length H) (omega arith), none (length H) (omega arith)) refl
best-stays b H now (Some best) k bill is =
    by_case (feasible now) refl
  where
    there : plan_at b H (length H) ≡ plan_after b H
    there = plan_at-end b H (length H) (omega arith)

    works : feasible now ≡ true → IsFeasibleAt b H (length H)
    works on = ap (λ P. feasible (bill_of b.instance P)) there ∙ (sym (ap feasible bill) ∙ on)

    by_case : (f : Bool) → feasible now ≡ f → best_with (Some best) k f (cost b.instance.weights now) ≡ Some best
    by_case false off = refl
    by_case true on =
        let low = is.0.cheapest (length H) (omega arith) (works on) in
        let cost-is : cost_at b H (length H) ≡ cost b.instance.weights now = ap (λ P. cost b.instance.weights (bill_of b.instance P)) there ∙ ap (cost b.instance.weights) (sym bill) in
        not_less (int_lt (cost b.instance.weights now) best.1) refl low cost-is
      where
        not_less : (t : Bool) → int_lt (cost b.instance.weights now) best.1 ≡ t → cost_at b H best.0 ≤ℤ cost_at b H (length H) → cost_at b H (length H) ≡ cost b.instance.weights now
            → (if t then Some (k, cost b.instance.weights now) else Some best) ≡ Some best
        not_less false off low cost-is = refl
        not_less true less low cost-is = let under : cost b.instance.weights now <ℤ best.1 = record { lt = subst T (sym less) tt } in let least = is.1 in absurd
            (omega (arith, ints, under, low, cost-is, least))

-- ---- the offer's entry added

abbrev pub bill_next : Verdict → Bill → Bill → Bill
bill_next v now price = if is_accepted v then add_bills now price else now

-- the numbers after an entry are those that the code makes
pub record AreNext (b : Base) (H : List Tried) (o : Offered) (v : Verdict) (cs ns : List ℕ) (found : Option (ℕ × ℤ)) (cs' ns' : List ℕ) (now' : Bill) (found' : Option (ℕ × ℤ)) : Type 0 where
  pub len : length cs' ≡ length cs
  pub counters : (n : ℕ) → slice_index cs' n ≡ slice_index cs n + (if is_accepted v then times_read n o.reads.pairs else 0)
  pub again : ns' ≡ slice_set ns o.worker (try_after b.options (Some (entry_with o (slice_index ns o.worker) v))).again
  pub chosen : found' ≡ best_with found (length H + 1) (feasible now') (cost b.instance.weights now')

-- an offer and the verdict on it come to a book
pub record IsAdding (b : Base) (H : List Tried) (cs ns : List ℕ) (now : Bill) (found : Option (ℕ × ℤ)) (o : Offered) (v : Verdict) : Type 0 where
  pub valid : IsValid b.instance
  pub kept : IsKept b H cs ns now found
  pub judged : IsJudged b H o v

module _ (b : Base) (H : List Tried) (cs ns : List ℕ) (now : Bill) (found : Option (ℕ × ℤ)) (o : Offered) (v : Verdict) (adding : IsAdding b H cs ns now found o v) where
  compared : is_accepted v ≡ true → is_compared b.instance b.options o.frozen o.number o.price ≡ true
  compared on =
      let same : v ≡ verdict_by_counters b.instance b.options (slice_index cs) o = adding.judged.verdict ∙ sym (verdict-same b H (slice_index cs) o adding.kept.versions.each adding.judged.right) in
      accepted-compared b.instance b.options (slice_index cs) o (ap is_accepted (sym same) ∙ on)

  pub accepted-in : is_accepted v ≡ true → All (λ (r : ℕ × ℕ). r.0 < length cs) o.reads.pairs
  accepted-in on = reads-in b H cs ns now found adding.valid adding.kept o adding.judged.right (compared on)

  pub accepted-rise : is_accepted v ≡ true → (n : ℕ) → slice_index cs n + length o.reads.pairs < 2 ^ 32
  accepted-rise on = counters-rise b H cs ns now found adding.valid adding.kept o adding.judged.right (compared on)

  legal-next : IsLegalButDraw b H (entry_of b H o v)
  legal-next = entry-legal b H o v adding.judged.right adding.judged.verdict

  pub exact-next : v ≡ Accepted → o.price ≡ change_of_bill b.instance (plan_after b H) (plan_after b (H ++ entry_of b H o v ∷ []))
  exact-next = exact-last b H (entry_of b H o v) adding.kept.base.start (legal_but-moves b H adding.kept.legal) legal-next

  pub entry-is : entry_with o (slice_index ns o.worker) v ≡ entry_of b H o v
  entry-is = ap (λ again. entry_with o again v) (adding.kept.again.each o.worker adding.judged.right.worker)

  -- the history with the entry that was put behind the others
  pub grown : {E : Type 0} (f : E → Tried) (old new : List E) (e : E) (again : ℕ) → map f old ≡ H → new ≡ old ++ e ∷ []
      → f e ≡ entry_with o again v → again ≡ slice_index ns o.worker → map f new ≡ H ++ entry_of b H o v ∷ []
  grown f old new e again before more is known =
      ap (map f) more ∙ map-more f old e ∙ ap (λ G. G ++ f e ∷ []) before
      ∙ ap (λ x. H ++ x ∷ []) (is ∙ ap (λ n. entry_with o n v) known ∙ entry-is)

  plan-next : plan_after b (H ++ entry_of b H o v ∷ []) ≡ after_entry b.instance (plan_after b H) (entry_of b H o v)
  plan-next = plan_after-more b H (entry_of b H o v)

  pub bill-next : bill_next v now o.price ≡ bill_of b.instance (plan_after b (H ++ entry_of b H o v ∷ []))
  bill-next = rw plan-next (by_case (is_accepted v) refl)
    where
      by_case : (t : Bool) → is_accepted v ≡ t → (if t then add_bills now o.price else now) ≡ bill_of b.instance (if t then after_all b.instance (plan_after b H) o.moves else plan_after b H)
      by_case true on =
          let exact = accepted-exact b H o.number o.seen o.moves o.price adding.kept.base.start (legal_but-moves b H adding.kept.legal) adding.judged.right.move
          (sym adding.judged.verdict ∙ accepted-is v on) adding.judged.right.price in
          rw (adding.kept.bill, exact) (add-change b.instance (plan_after b H) (after_all b.instance (plan_after b H) o.moves))
      by_case false off = adding.kept.bill

  pub bill-next-in : IsWithin (10 ^ 11) (bill_next v now o.price)
  bill-next-in =
      let moves = legal_but-moves b (H ++ entry_of b H o v ∷ []) (legal_but-more b H (entry_of b H o v) adding.kept.legal legal-next) in
      subst (IsWithin (10 ^ 11)) (sym bill-next)
      (bill-within b.instance (plan_after b (H ++ entry_of b H o v ∷ [])) adding.valid
      (after_entries-plan b.instance b.start (H ++ entry_of b H o v ∷ []) adding.kept.base.start moves))

  module _ (cs' ns' : List ℕ) (now' : Bill) (found' : Option (ℕ × ℤ)) (next : AreNext b H o v cs ns found cs' ns' now' found') (billed : now' ≡ bill_next v now o.price) where
    -- each cell of the footprint is read once
    rises : (n : ℕ) → n < cell_count b.instance → (t : Bool) → is_accepted v ≡ t
        → slice_index cs n + (if t then times_read n o.reads.pairs else 0) ≡ risen_where t (slice_index cs) (reads_after b (take o.seen H) o.moves) n
    unfolding footprint_of_all
    rises n below false off = omega arith
    rises n below true on =
        let once = times-once (cell_count b.instance) n (λ n. version b (take o.seen H) (cell_at b.instance n)) (λ n. all_touch b.instance (plan_at b H o.seen) o.moves (cell_at b.instance n)) below in
        let keys = reads-cells b (take o.seen H) o.moves in
        rw (adding.judged.right.reads (compared on), keys) (ap (λ k. slice_index cs n + k) once)

    versions-next : AreVersions b (H ++ entry_of b H o v ∷ []) cs'
    versions-next = record {
      len = next.len ∙ adding.kept.versions.len;
      each = λ n below. next.counters n ∙ rises n below (is_accepted v) refl
          ∙ versions-more b H (entry_of b H o v) (slice_index cs) adding.kept.base.start (legal_but-moves b H adding.kept.legal) legal-next adding.kept.versions.each n below;
    }

    again-at : (w : ℕ) → w < b.options.workers → slice_index (slice_set ns o.worker (try_after b.options (Some (entry_of b H o v))).again) w
        ≡ (try_after b.options (last_by w (H ++ entry_of b H o v ∷ []))).again
    again-at w known = elim (cases_eq w o.worker) [
      | inl own ↦
          let inside : o.worker < length ns = (let len = adding.kept.again.len in let is = adding.judged.right.worker in omega (arith, len, is)) in
          rw (own, last_by-own H (entry_of b H o v) o.worker refl) (get_or-set_same ns o.worker (try_after b.options (Some (entry_of b H o v))).again 0 inside)
      | inr other ↦
          rw (last_by-other H (entry_of b H o v) w (λ e. other (sym e)))
          (get_or-set_other ns o.worker w (try_after b.options (Some (entry_of b H o v))).again 0 other ∙ adding.kept.again.each w known)
    ]

    again-next : AreAgain b (H ++ entry_of b H o v ∷ []) ns'
    again-next =
        let is : ns' ≡ slice_set ns o.worker (try_after b.options (Some (entry_of b H o v))).again =
        next.again ∙ ap (λ e. slice_set ns o.worker (try_after b.options (Some e)).again) entry-is in
        record {
          len = rw is (length-set ns o.worker (try_after b.options (Some (entry_of b H o v))).again ∙ adding.kept.again.len);
          each = rw is again-at;
        }

    pub kept-more : IsKept b (H ++ entry_of b H o v ∷ []) cs' ns' now' found'
    kept-more =
        let bill = billed ∙ bill-next in
        record {
          base = adding.kept.base;
          legal = legal_but-more b H (entry_of b H o v) adding.kept.legal legal-next;
          versions = versions-next;
          again = again-next;
          bill = bill;
          best = rw next.chosen
              (best-more b H (entry_of b H o v) (feasible now') (cost b.instance.weights now') (ap feasible (sym bill)) (ap (cost b.instance.weights) (sym bill)) found adding.kept.best);
        }
