-- What a round leaves.
use Rattle.std.proofs.Common.{◌≡◌, ℕ, zero, suc, ◌+◌, ◌<◌, refl, sym, ap, ◌∙◌, subst, arith, List, [], ◌∷◌, ◌++◌, length, take, drop, map, get_or, Some, None}
use Rattle.std.specs.Prelude.{All, slice_get, slice_index_or}
use Rattle.std.proofs.lemmas.List.{map-append, take-append-le, take_all, take_more}
use Rattle.std.proofs.lemmas.List.Elements.{All-nil, All-cons, All-weaker}
use Rattle.std.proofs.lemmas.List.Sums.{fold_push}
use Rattle.ih_tables.specs.declared.drafts.Draft.{Draft}
use Rattle.ih_plan.specs.BillOf.{bill_of}
use Rattle.ih_plan.specs.Timetable.{Timetable, IsPlanOf}
use Rattle.ih_plan.proofs.Freezing.{start-agrees}
use Rattle.ih_plan.proofs.Keeping.{start-keeps}
use Rattle.ih_improve.specs.declared.comparing.Standing.{Standing}
use Rattle.ih_improve.specs.declared.settings.Settings.{Settings}
use Rattle.ih_improve.specs.declared.spans.Span.{Span}
use Rattle.ih_improve.specs.declared.workers.ImproveWorker.{ImproveWorker}
use Rattle.ih_improve.specs.Better.{best_of, better_of, of_bill, standing_of}
use Rattle.ih_improve.specs.Following.{IsNoWorse, MayFollow, MayStand}
use Rattle.ih_improve.specs.ImproverState.{ImproverState, Leads, MayGoOn, led_to, leg_of, terms_of}
use Rattle.ih_improve.specs.Keeping.{IsKeeping, IsOf, StandsOn, StandsWell, best_met}
use Rattle.ih_improve.specs.Legs.{IsLeg, Leaves}
use Rattle.ih_improve.specs.Pinned.{PinsState, pinned_choices}
use Rattle.ih_improve.specs.Settings.{IsLawful}
use Rattle.ih_improve.specs.Terms.{Terms}
use Rattle.ih_improve.proofs.BetterLemmas.{best-follows, follows-through, no_worse-same, none-counted}

-- what holds at each place holds of all
pub all-each : {A : Type 0} (P : A → Type 0) (xs : List A) → ((k : ℕ) (d : A) → k < length xs → P (slice_index_or xs k d)) → All P xs
all-each P [] each = All-nil P
all-each P (x ∷ xs) each = All-cons P x xs (each 0 x (omega arith)) (all-each P xs (λ k d h. each (suc k) d (omega arith)))

-- an element of a mapped list is of one at its place
at-map : {A B : Type 0} (f : A → B) (xs : List A) (k : ℕ) (y : B) → slice_get (map f xs) k ≡ Some y
    → (x : A) × (k < length xs) × (slice_index_or xs k x ≡ x) × (f x ≡ y)
at-map f [] k y h = absurd (let no : None ≡ Some y = h in cc)
at-map f (x ∷ xs) zero y h = (x, omega arith, refl, (let e : Some (f x) ≡ Some y = h in cc))
at-map f (x ∷ xs) (suc k) y h = let rest = at-map f xs k y h in (rest.0, omega (arith, rest.1), rest.2, rest.3)

-- what is written to the whole of a list stands there
pub written-back : {A : Type 0} (n : ℕ) (new old : List A) → length new ≡ length old → n ≡ length old → take n (new ++ drop (length new) old) ≡ new
written-back n new old len all =
    take-append-le n new (drop (length new) old) (omega (arith, len, all)) ∙ take_all n new (omega (arith, len, all))

-- one worker more
pub best-more : (t : Terms) (P : Timetable) (ws : List ImproveWorker) (i : ℕ) (x : ImproveWorker) → i < length ws → x ≡ get_or ws i x
    → best_of t P (map best_met (take (i + 1) ws)) ≡ better_of t (best_of t P (map best_met (take i ws))) (best_met x)
best-more t P ws i x h is =
    ap (λ vs. best_of t P (map best_met vs)) (take_more ws i x h ∙ ap (λ w. take i ws ++ w ∷ []) (sym is))
    ∙ (ap (best_of t P) (map-append best_met (take i ws) (x ∷ []))
    ∙ fold_push (better_of t) P (map best_met (take i ws)) (best_met x))

-- the start may be stood on
pub start-stands : (t : Terms) → IsPlanOf t.instance t.start → MayStand t t.start
start-stands t plan = record {
  plan = plan;
  frozen = start-agrees t.instance t.start t.settings.freeze;
  pinned = start-keeps t.instance t.start (pinned_choices t.instance t.start t.pins);
}

-- and may take its own place
pub start-follows : (t : Terms) → IsPlanOf t.instance t.start → MayFollow t t.start t.start
start-follows t plan = record { stands = start-stands t plan; no_worse = no_worse-same t t.start }

-- so may all workers that stand on it
pub all-stand : (t : Terms) (ws : List ImproveWorker) → IsPlanOf t.instance t.start → All (StandsOn t.start) ws → All (StandsWell t) ws
all-stand t ws plan =
    All-weaker (StandsOn t.start) (StandsWell t) (λ w is. subst (MayStand t) (sym is) (start-stands t plan)) ws

-- a search that begins keeps what it has to
pub begun-keeping : (I : Draft) (start : Timetable) (pins : PinsState) (s : Settings) (standing : Standing) (ws : List ImproveWorker) → IsPlanOf I start → IsLawful s
    → standing ≡ of_bill (bill_of I start) → length ws ≡ s.workers → All (IsOf I) ws → All (StandsOn start) ws → (S K : Timetable) → S ≡ start → K ≡ start
    → IsKeeping (record { instance = I; start = S; pins = pins; settings = s; rounds = 0; attempts = 0; kept = K }) standing ws
begun-keeping I start pins s standing ws plan lawful is count of stands S K first kept =
    let t : Terms = record { instance = I; start = start; pins = pins; settings = s } in
    let begun : IsKeeping (record { instance = I; start = start; pins = pins; settings = s; rounds = 0; attempts = 0; kept = start }) standing ws = record {
      sound = record { lawful = lawful; rounds = omega arith; attempts = omega arith; start = plan; kept = start-follows t plan };
      standing_is = is ∙ ap (λ (n : ℕ). record { bill = bill_of I start; changes = n }) (sym (none-counted t));
      count = count;
      instance = of;
      stands = all-stand t ws plan stands;
    } in
    subst (λ (P : Timetable). IsKeeping (record { instance = I; start = P; pins = pins; settings = s; rounds = 0; attempts = 0; kept = K }) standing ws) (sym first)
    (subst (λ (P : Timetable). IsKeeping (record { instance = I; start = start; pins = pins; settings = s; rounds = 0; attempts = 0; kept = P }) standing ws) (sym kept) begun)

-- what a round begins with
pub begins : (v : ImproverState) (s : Span) (standing : Standing) (ws : List ImproveWorker) → IsKeeping v standing ws → IsLeg (leg_of v s) standing
begins v s standing ws keeping = record {
  lawful = keeping.sound.lawful;
  start = keeping.sound.start;
  from = keeping.sound.kept;
  standing_is = keeping.standing_is;
}

module _ (v : ImproverState) (s : Span) (standing : Standing) (old new : List ImproveWorker) (keeping : IsKeeping v standing old) (len : length new ≡ length old)
    (same : (k : ℕ) (d : ImproveWorker) → k < length old → (slice_index_or new k d).walker.instance ≡ v.instance)
    (stands : (k : ℕ) (d : ImproveWorker) → k < length old → StandsWell (terms_of v) (slice_index_or new k d))
    (left : (k : ℕ) (d : ImproveWorker) → k < length old → Leaves (leg_of v s) k (best_met (slice_index_or new k d))) where
  pub all-of : All (IsOf v.instance) new
  all-of = all-each (IsOf v.instance) new (λ k d h. same k d (omega (arith, h, len)))

  all-well : All (StandsWell (terms_of v)) new
  all-well = all-each (StandsWell (terms_of v)) new (λ k d h. stands k d (omega (arith, h, len)))

  leaves-each : (w : ℕ) (Q : Timetable) → slice_get (map best_met new) w ≡ Some Q → Leaves (leg_of v s) w Q
  leaves-each w Q there =
      let x = at-map best_met new w Q there in
      subst (Leaves (leg_of v s) w) (ap best_met x.2 ∙ x.3) (left w x.0 (omega (arith, x.1, len)))

  pub leads : (P : Timetable) → P ≡ best_of (terms_of v) v.kept (map best_met new) → Leads Leaves v s P
  leads P best = record {
    left = map best_met new;
    each_worker = length-best new ∙ (len ∙ keeping.count);
    leaves = leaves-each;
    best = best;
  }
    where
      length-best : (ws : List ImproveWorker) → length (map best_met ws) ≡ length ws
      length-best [] = refl
      length-best (w ∷ ws) = let rest = length-best ws in omega (arith, rest)

  follows : (P : Timetable) → P ≡ best_of (terms_of v) v.kept (map best_met new) → MayFollow (terms_of v) v.kept P
  follows P best =
      subst (MayFollow (terms_of v) v.kept) (sym best)
      (best-follows (terms_of v) v.kept v.kept (map best_met new)
      (record { stands = keeping.sound.kept.stands; no_worse = no_worse-same (terms_of v) v.kept }) leaves-each)

  pub no_worse : (P : Timetable) → P ≡ best_of (terms_of v) v.kept (map best_met new) → IsNoWorse (terms_of v) v.kept P
  no_worse P best = (follows P best).no_worse

  pub keeps : (P : Timetable) (more : Standing) → MayGoOn v s → P ≡ best_of (terms_of v) v.kept (map best_met new)
      → more ≡ standing_of (terms_of v) P → IsKeeping (led_to v s P) more new
  keeps P more may best judged = record {
    sound = record {
      lawful = keeping.sound.lawful;
      rounds = let rounds = may.rounds in omega (arith, rounds);
      attempts = may.attempts;
      start = keeping.sound.start;
      kept = follows-through (terms_of v) v.start v.kept P keeping.sound.kept (follows P best);
    };
    standing_is = judged;
    count = len ∙ keeping.count;
    instance = all-of;
    stands = all-well;
  }
