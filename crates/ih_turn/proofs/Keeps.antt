-- Each step of a turn keeps the rule.
use Rattle.std.proofs.Common.{◌≡◌, Bool, ℕ, ◌+◌, ◌%◌, ◌^◌, ◌<◌, ◌≤◌, ◌≢◌, true, false, List, [], ◌∷◌, ◌++◌, length, get_or, set, sym, refl, ap, ◌∙◌, subst, ⊎_elim, append_assoc, length-set, length-append, get_or-set_other, get_or-set_same, arith}
use Rattle.std.specs.Prelude.{Option, Some}
use mathlib.Core.Option as maybe
use mathlib.Core.Logic.{dite}
use native.Mathlib.Decide.{ℕ_discrete}
use lib.ListN.{get_elem?}
use lib.Seq.{set-get_or}
use Rattle.std.proofs.Math.Nat.{mod-eq_of_lt}
use Rattle.std.proofs.lemmas.List.Elements.{All-push}
use Rattle.atomic_table.specs.Table.{State, Me, Act, Step, rest, step, keeps, takes, gives, stepped, carried_after, Valid, Allows}
use Rattle.atomic_table.proofs.Lists.{set_here, set_again}
use Rattle.ih_turn.specs.declared.view.View.{View}
use Rattle.ih_turn.specs.Rule.{GoesOn, HoldsTicket, IsGiven, Knows, Turns, IsTurn, queued, served, passed, TakesTicket, ReadsServing, PassesTurn, AddsAtMostOne}
use Rattle.ih_turn.proofs.Views.{not_true, in_range, same_at, on_set, there_set, before_set, all_left_set, left_within, goes_on-itself, goes_on-more, some_same, nothing_there, in_hand}

module _ {B E D : Type 0} (entries : B → List E) (base : B → D) (maker : E → ℕ) (opening : B) (seats turns : ℕ) where
  abbrev V : Type 0
  V = View E D

  abbrev Homes : Type 0
  Homes = List (maybe.Option (Option B))

  abbrev M : Type 0
  M = Me (Option B) V

  abbrev Rule : State (Option B) V → Type 0
  Rule = IsTurn entries base maker opening seats turns

  abbrev Ok : ℕ → ℕ → Homes → List V → Type 0
  Ok = Turns entries base maker opening seats turns

  abbrev K : List E → (ℕ → maybe.Option ℕ) → ℕ → V → Type 0
  K = Knows entries base maker opening seats turns

  -- a seat takes a ticket
  queue_step : (t s : ℕ) (hs : Homes) (vs : List V) (id : ℕ) (v : V) → Ok t s hs vs → get_elem? vs id ≡ maybe.some v → v.spent ≡ false → v.waits ≡ false
      → v.has_turn ≡ false → 0 < v.left → Ok (t + 1) s hs (set vs id (queued v t))
  queue_step t s hs vs id v r at live free idle some_left = let w : V = queued v t in let order : s ≤ t = r.order in let total = all_left_set vs id v w at in let room = r.room in record {
    kept = r.kept;
    owner = r.owner;
    fits = r.fits;
    room = omega arith;
    order = omega arith;
    issued = λ n le below. dite (ℕ_discrete n t)
        (λ is. (id, w, set_here vs id w (in_range vs id v at), (live, refl, sym is)))
        (λ other. there_set (λ x. HoldsTicket x n) vs id v w at (λ h. let wrong : false ≡ true = sym free ∙ h.1 in absurd (cc)) (r.issued n le (omega arith)));
    tickets = on_set (λ i x. x.waits ≡ true → (s ≤ x.ticket) × (x.ticket < t + 1)) vs id w (λ _. (order, omega arith)) (λ j x _ e h. let k = r.tickets j x e h in (k.0, omega arith));
    apart = on_set (λ i x. x.waits ≡ true → (j : ℕ) (y : V) → get_elem? (set vs id w) j ≡ maybe.some y → y.waits ≡ true → x.ticket ≡ y.ticket → i ≡ j) vs id w
        (λ _. on_set (λ j y. y.waits ≡ true → t ≡ y.ticket → id ≡ j) vs id w (λ _ _. refl) (λ j y _ e h same. let k = r.tickets j y e h in absurd (omega arith)))
        (λ i x _ ex hx. on_set (λ j y. y.waits ≡ true → x.ticket ≡ y.ticket → i ≡ j) vs id w (λ _ same. let k = r.tickets i x ex hx in absurd (omega arith))
        (λ j y _ ey hy same. r.apart i x ex hx j y ey hy same));
    holder = on_set (λ i x. x.has_turn ≡ true → (x.spent ≡ false) × (x.waits ≡ true) × (x.ticket ≡ s) × (hs ≡ maybe.none ∷ []) × (x.seen ≡ r.kept)) vs id w
        (λ h. let wrong : false ≡ true = sym idle ∙ h in absurd (cc)) (λ j x _ e h. r.holder j x e h);
    home = λ none. r.home (before_set (λ _ x. x.has_turn ≡ false) vs id v w at idle none);
    each = on_set (λ i x. x.spent ≡ false → K r.kept r.owner i x) vs id w
        (λ live. let k = r.each id v at live in record {
          based = k.based;
          started = k.started;
          long = k.long;
          numbered = k.numbered;
          owned = k.owned;
          seen = k.seen;
          takes_in = k.takes_in;
        })
        (λ j x _ e live. r.each j x e live);
    gives = on_set (λ i x. 0 < x.given → (i ≡ 0) × ((m : ℕ) → x.given ≤ m → r.owner m ≡ maybe.none)) vs id w (λ h. r.gives id v at h) (λ j x _ e h. r.gives j x e h);
    grown = r.grown;
  }

  pub queues : (slots id : ℕ) (me : M) → me.0.spent ≡ false → me.0.waits ≡ false → me.0.has_turn ≡ false → 0 < me.0.left
      → Allows Rule slots id me 0 (λ n. (n + 1) % 2 ^ 64) (TakesTicket (step slots 0 1 0 maybe.none) me)
  queues slots id me live free idle some_left st r wide at small = let t : ℕ = get_or st.words 0 0 in let s : ℕ = get_or st.words 1 0 in let v : V = me.0 in let w : V = queued v t in
      let long : length st.words ≡ 2 = r.0 in let room = r.1.room in let cap = r.1.fits in let within = left_within st.views id v at in let fits : t + 1
      < 2 ^ 64 = omega arith in let x : ℕ = (t + 1) % 2 ^ 64 in
      let up : x ≡ t + 1 = mod-eq_of_lt fits in let here : get_or (set st.words 0 x) 0 0
      ≡ x = get_or-set_same st.words 0 x 0 (omega arith) in let there : get_or (set st.words 0 x) 1 0
      ≡ s = get_or-set_other st.words 0 1 x 0 (λ e. omega arith) in (
        w,
        keeps,
        tt,
        (
          length-set st.words 0 x
              ∙ long,
          subst (λ (z : ℕ × ℕ). Ok z.0 z.1 st.homes (set st.views id w)) (λ i. (sym (here ∙ up) i, sym there i))
              (queue_step t s st.homes st.views id v r.1 at live free idle some_left),
        ),
        refl,
      )

  -- where a seat waits for the ticket that is served, no seat has the turn
  none_serves : (t s : ℕ) (hs : Homes) (vs : List V) (id : ℕ) (v : V) → Ok t s hs vs → get_elem? vs id ≡ maybe.some v → v.waits ≡ true → v.has_turn ≡ false
      → v.ticket ≡ s → (i : ℕ) (x : V) → get_elem? vs i ≡ maybe.some x → x.has_turn ≡ false
  none_serves t s hs vs id v r at waits idle is i x e = not_true x.has_turn (λ h. let k = r.holder i x e h in let same = r.apart i x e k.1 id v at waits (k.2 ∙ sym is) in
      let v' = same_at vs id x v (subst (λ (z : ℕ). get_elem? vs z ≡ maybe.some x) same e) at in let wrong : false ≡ true = sym idle ∙ (ap (λ (z : V). z.has_turn) (sym v') ∙ h) in absurd (cc))

  -- a seat that has seen the whole list, whether or not it has the turn and a ticket
  knows_all : (old kept : List E) (owner : ℕ → maybe.Option ℕ) (i : ℕ) (v : V) (has waits : Bool) → K old owner i v → v.start ≤ length kept
      → ((k : ℕ) (t : ℕ × List E) → get_elem? v.joined k ≡ maybe.some t → (t.0 < seats) × (owner t.0 ≡ maybe.some i) × GoesOn maker t.0 t.1 kept)
      → K kept owner i (record v { has_turn = has; waits = waits; seen = kept })
  knows_all old kept owner i v has waits k long joined = record {
    based = k.based;
    started = k.started;
    long = long;
    numbered = k.numbered;
    owned = k.owned;
    seen = goes_on-itself maker v.number kept;
    takes_in = joined;
  }

  abbrev Served : ℕ → ℕ → Homes → List V → ℕ → V → B → Type 0
  Served t s hs vs id v b = (hs ≡ maybe.some (Some b) ∷ []) × Ok t s (maybe.none ∷ []) (set vs id (served v (entries b)))
      × GoesOn maker v.number v.seen (entries b) × (v.base ≡ Some (base b)) × (v.start ≤ length (entries b))

  -- a seat whose ticket is served takes the slot
  look_step : (t s : ℕ) (hs : Homes) (vs : List V) (id : ℕ) (v : V) → Ok t s hs vs → get_elem? vs id ≡ maybe.some v → v.spent ≡ false → v.waits ≡ true
      → v.has_turn ≡ false → v.ticket ≡ s → (b : B) × Served t s hs vs id v b
  look_step t s hs vs id v r at live waits idle is = let h = r.home (none_serves t s hs vs id v r at waits idle is) in let b : B = h.0 in let w : V = served v
      (entries b) in let k = r.each id v at live in
      let same : r.kept ≡ entries b = sym h.2 in let follows : GoesOn maker v.number v.seen (entries b) = subst (λ (l : List E). GoesOn maker v.number v.seen l) same k.seen in
      let longer : length (entries b)
      ≡ length (v.seen ++ follows.others) = ap length follows.history in let sum = length-append v.seen follows.others in let long = k.long in let long' : v.start
      ≤ length (entries b) = omega arith in (
        b,
        (
          h.1,
          record {
            kept = r.kept;
            owner = r.owner;
            fits = r.fits;
            room = (let total = all_left_set vs id v w at in let room = r.room in omega arith);
            order = r.order;
            issued = λ n le below. there_set (λ x. HoldsTicket x n) vs id v w at (λ h. h) (r.issued n le below);
            tickets = on_set (λ i x. x.waits ≡ true → (s ≤ x.ticket) × (x.ticket < t)) vs id w (λ _. r.tickets id v at waits) (λ j x _ e q. r.tickets j x e q);
            apart = on_set (λ i x. x.waits ≡ true → (j : ℕ) (y : V) → get_elem? (set vs id w) j ≡ maybe.some y → y.waits ≡ true → x.ticket ≡ y.ticket → i ≡ j) vs id w
                (λ _. on_set (λ j y. y.waits ≡ true → v.ticket ≡ y.ticket → id ≡ j) vs id w (λ _ _. refl) (λ j y _ e q eq. r.apart id v at waits j y e q eq))
                (λ i x _ ex hx. on_set (λ j y. y.waits ≡ true → x.ticket ≡ y.ticket → i ≡ j) vs id w (λ _ eq. r.apart i x ex hx id v at waits eq) (λ j y _ ey hy eq. r.apart i x ex hx j y ey hy eq));
            holder = on_set (λ i x. x.has_turn ≡ true
                → (x.spent ≡ false) × (x.waits ≡ true) × (x.ticket ≡ s) × (◌≡◌ {A = Homes} (maybe.none ∷ []) (maybe.none ∷ [])) × (x.seen ≡ r.kept)) vs id w
                (λ _. (live, waits, is, refl, sym same))
                (λ j x _ e q. let wrong : false ≡ true = sym (none_serves t s hs vs id v r at waits idle is j x e) ∙ q in absurd (cc));
            home = λ none. let wrong : true ≡ false = none id w (set_here vs id w (in_range vs id v at)) in absurd (cc);
            each = on_set (λ i x. x.spent ≡ false → K r.kept r.owner i x) vs id w
                (λ _. subst (λ (l : List E). K r.kept r.owner id (served v l)) same
                (knows_all r.kept r.kept r.owner id v true v.waits k (let e = ap length same in omega (arith, e, long')) k.takes_in))
                (λ j x _ e q. r.each j x e q);
            gives = on_set (λ i x. 0 < x.given → (i ≡ 0) × ((m : ℕ) → x.given ≤ m → r.owner m ≡ maybe.none)) vs id w (λ q. r.gives id v at q) (λ j x _ e q. r.gives j x e q);
            grown = r.grown;
          },
          follows,
          k.based ∙ ap Some (sym h.3),
          long',
        ),
      )

  abbrev Look : ℕ → M → ℕ → M → Type 0
  Look slots me n w = ReadsServing entries base maker (step slots 1 0 0 maybe.none) me n w

  pub looks : (slots id : ℕ) (me : M) → me.0.spent ≡ false → me.0.waits ≡ true → me.0.has_turn ≡ false → Allows Rule slots id me 1 (λ n. n) (Look slots me)
  looks slots id me live waits idle st r wide at small = let t : ℕ = get_or st.words 0 0 in let s : ℕ = get_or st.words 1 0 in let v : V = me.0 in dite (ℕ_discrete s v.ticket)
      (λ hit. let got = look_step t s st.homes st.views id v r.1 at live waits idle (sym hit) in let b : B = got.0 in let w : V = served v (entries b) in (
        w,
        takes 0 (Some b),
        ap (λ (l : Homes). get_elem? l 0) got.1.0,
        subst (λ (z : List ℕ × Homes). Rule record { words = z.0; homes = z.1; views = set st.views id w })
            (λ i. (sym (set-get_or st.words 1 0) i, sym (ap (λ (l : Homes). set l 0 maybe.none) got.1.0) i)) (r.0, got.1.1),
        ((λ _. (b, refl, got.1.2, got.1.3, got.1.4)), (λ miss. absurd (miss hit))),
      ))
      (λ miss. (
        v,
        keeps,
        tt,
        subst (λ (z : List ℕ × List V). Rule record { words = z.0; homes = st.homes; views = z.1 }) (λ i. (sym (set-get_or st.words 1 0) i, sym (set_again st.views id v at) i)) r,
        ((λ hit. absurd (miss hit)), (λ _. refl)),
      ))

  -- what a seat knows stays so where another adds an entry
  knows_more : (kept kept' : List E) (owner : ℕ → maybe.Option ℕ) (n i j : ℕ) (x : V) → AddsAtMostOne maker n kept kept' → owner n ≡ maybe.some i → j ≢ i → K kept owner j x → K kept' owner j x
  knows_more kept kept' owner n i j x adds mine other k =
      let more : (m : ℕ) (seen : List E) → owner m ≡ maybe.some j → GoesOn maker m seen kept → GoesOn maker m seen kept' =
      λ m seen own f. ⊎_elim (λ (same : kept' ≡ kept). subst (λ (l : List E). GoesOn maker m seen l) (sym same) f)
      (λ (a : (e : E) × (kept' ≡ kept ++ e ∷ []) × (maker e ≡ n)). subst (λ (l : List E). GoesOn maker m seen l) (sym a.1)
      (goes_on-more maker m kept seen a.0 (λ eq. other (maybe.some-injective j i (sym own ∙ (ap owner (sym eq ∙ a.2) ∙ mine)))) f)) adds in
      record {
        based = k.based;
        started = k.started;
        long = k.long;
        numbered = k.numbered;
        owned = k.owned;
        seen = more x.number x.seen k.owned k.seen;
        takes_in = λ q u e. let g = k.takes_in q u e in (g.0, g.1, more u.0 u.1 g.1 g.2);
      }

  -- the seat that has the turn puts the slot back and passes the turn on
  pass_step : (t s : ℕ) (hs : Homes) (vs : List V) (id : ℕ) (v : V) (b : B) → Ok t s hs vs → get_elem? vs id ≡ maybe.some v → v.has_turn ≡ true → v.joined ≡ []
      → v.start ≤ length (entries b) → v.base ≡ Some (base b)
      → AddsAtMostOne maker v.number v.seen (entries b) → (s < t) × Ok t (s + 1) (maybe.some (Some b) ∷ []) (set vs id (passed v (entries b)))
  pass_step t s hs vs id v b r at has alone long' based adds = let h = r.holder id v at has in let k = r.each id v at h.0 in let w : V = passed v (entries b) in let seen : v.seen ≡ r.kept = h.4 in
      let adds' : AddsAtMostOne maker v.number r.kept (entries b) = subst
      (λ (l : List E). AddsAtMostOne maker v.number l (entries b)) seen adds in let mine = r.tickets id v at h.1 in let is : v.ticket ≡ s = h.2 in
      let later : (j : ℕ) (x : V) → j ≢ id → get_elem? vs j ≡ maybe.some x → x.waits ≡ true → x.ticket ≢ s = λ j x other e q same. other (r.apart j x e q id v at h.1 (same ∙ sym is)) in
      let below : s < t = (let a = mine.1 in omega arith) in (
        below,
        record {
          kept = entries b;
          owner = r.owner;
          fits = r.fits;
          room = (let total = all_left_set vs id v w at in let room = r.room in omega arith);
          order = omega arith;
          issued = λ n le below'. there_set (λ x. HoldsTicket x n) vs id v w at (λ h. let same = h.2 in absurd (omega arith)) (r.issued n (omega arith) below');
          tickets = on_set (λ i x. x.waits ≡ true → (s + 1 ≤ x.ticket) × (x.ticket < t)) vs id w (λ q. absurd (cc))
              (λ j x other e q. let a = r.tickets j x e q in let b' = later j x other e q in (omega arith, a.1));
          apart = on_set (λ i x. x.waits ≡ true → (j : ℕ) (y : V) → get_elem? (set vs id w) j ≡ maybe.some y → y.waits ≡ true → x.ticket ≡ y.ticket → i ≡ j) vs id w (λ q. absurd (cc))
              (λ i x _ ex hx. on_set (λ j y. y.waits ≡ true → x.ticket ≡ y.ticket → i ≡ j) vs id w (λ q _. absurd (cc)) (λ j y _ ey hy eq. r.apart i x ex hx j y ey hy eq));
          holder = on_set (λ i x. x.has_turn ≡ true
              → (x.spent ≡ false) × (x.waits ≡ true) × (x.ticket ≡ s + 1) × (◌≡◌ {A = Homes} (maybe.some (Some b) ∷ []) (maybe.none ∷ []))
              × (x.seen ≡ entries b)) vs id w (λ q. absurd (cc))
              (λ j x other e q. let a = r.holder j x e q in absurd (later j x other e a.1 a.2));
          home = λ _. (b, refl, refl, some_same (base b) (base opening) (sym based ∙ k.based));
          each = on_set (λ i x. x.spent ≡ false → K (entries b) r.owner i x) vs id w
              (λ _. knows_all r.kept (entries b) r.owner id v false false k long'
              (λ q u e. absurd (nothing_there u q (subst (λ (l : List (ℕ × List E)). get_elem? l q ≡ maybe.some u) alone e))))
              (λ j x other e q. knows_more r.kept (entries b) r.owner v.number id j x adds' k.owned other (r.each j x e q));
          gives = on_set (λ i x. 0 < x.given → (i ≡ 0) × ((m : ℕ) → x.given ≤ m → r.owner m ≡ maybe.none)) vs id w (λ q. r.gives id v at q) (λ j x _ e q. r.gives j x e q);
          grown = ⊎_elim (λ (same : entries b ≡ r.kept). (r.grown.0, same ∙ r.grown.1, r.grown.2))
              (λ (a : (e : E) × (entries b ≡ r.kept ++ e ∷ []) × (maker e ≡ v.number)). (
                r.grown.0 ++ a.0 ∷ [],
                a.1 ∙ (ap (λ (l : List E). l ++ a.0 ∷ []) r.grown.1 ∙ append_assoc (entries opening) r.grown.0 (a.0 ∷ [])),
                All-push (λ e. IsGiven seats r.owner (maker e)) r.grown.0 a.0 r.grown.2 (subst (IsGiven seats r.owner) (sym a.2) (k.numbered, (λ none. maybe.some-ne-none id (sym k.owned ∙ none)))),
              )) adds';
        },
      )

  pub passes : (slots id : ℕ) (v : V) (b : B) → v.has_turn ≡ true → v.joined ≡ [] → v.start ≤ length (entries b) → v.base ≡ Some (base b) → AddsAtMostOne maker v.number v.seen (entries b)
      → (cs : List (ℕ × Option B)) → cs ≡ (0, Some b) ∷ [] → Allows Rule slots id (v, cs) 1 (λ n. (n + 1) % 2 ^ 64) (λ _ w. PassesTurn entries (v, cs) w)
  passes slots id v b has alone long based adds cs out st r wide at small =
      let t : ℕ = get_or st.words 0 0 in
      let s : ℕ = get_or st.words 1 0 in
      let w : V = passed v (entries b) in
      let h = r.1.holder id v at has in
      let p = pass_step t s st.homes st.views id v b r.1 at has alone long based adds in let below : s
      < t = p.0 in let room = r.1.room in let cap = r.1.fits in let x : ℕ = (s + 1) % 2 ^ 64 in let two : length st.words ≡ 2 = r.0 in
      let up : x ≡ s + 1 = mod-eq_of_lt (let f : s + 1 < 2 ^ 64 = omega arith in f) in let here : get_or (set st.words 1 x) 1 0
      ≡ x = get_or-set_same st.words 1 x 0 (omega arith) in let there : get_or (set st.words 1 x) 0 0
      ≡ t = get_or-set_other st.words 1 0 x 0 (λ e. omega arith) in
      subst (λ (l : List (ℕ × Option B)). (w : V) × (a : Act (Option B)) × Valid st.homes l a × Rule (stepped st 1 x id l w a) × PassesTurn entries (v, l) (w, carried_after l a)) (sym out) (
        w,
        gives,
        tt,
        (
          length-set st.words 1 x
              ∙ two,
          subst (λ (z : (ℕ × ℕ) × Homes). Ok z.0.0 z.0.1 z.1 (set st.views id w))
              (λ i. ((sym there i, sym (here ∙ up) i), sym (ap (λ (l : Homes). set l 0 (maybe.some (Some b))) h.3) i)) p.1,
        ),
        λ b' same. let eq : b ≡ b' = some_same b b' (ap in_hand same) in ap (λ (y : B). (passed v (entries y), [])) eq,
      )

  abbrev Got : V → M → B → Type 0
  Got v w b = (w ≡ (served v (entries b), (0, Some b) ∷ [])) × GoesOn maker v.number v.seen (entries b) × (v.base ≡ Some (base b)) × (v.start ≤ length (entries b))

  -- what the look told, where the ticket was served
  pub looked : (st : Step (Option B)) (m m' : M) (n ticket : ℕ) (w : M) → m ≡ m' → ReadsServing entries base maker st m n w → n ≡ ticket → m'.0.ticket ≡ ticket → m'.1 ≡ [] → (b : B) × Got m'.0 w b
  looked st m m' n ticket w same l found is free = let l' : ReadsServing entries base maker st m' n w = subst
      (λ (x : M). ReadsServing entries base maker st x n w) same l in let g = l'.0 (found ∙ sym is) in
      (g.0, (g.1 ∙ ap (λ (c : List (ℕ × Option B)). (served m'.0 (entries g.0), (0, Some g.0) ∷ c)) free, g.2, g.3, g.4))

  pub in_hand_at : (v : V) (w : M) (b : B) → w ≡ (v, (0, Some b) ∷ []) → (x : Option B) × (w.1 ≡ (0, x) ∷ rest w.1)
  in_hand_at v w b e = (Some b, subst (λ (m : M). m.1 ≡ (0, Some b) ∷ rest m.1) (sym e) refl)

  pub passes_at : (slots id : ℕ) (me : M) (v : V) (b : B) → me ≡ (v, (0, Some b) ∷ []) → v.has_turn ≡ true → v.joined ≡ [] → v.start ≤ length (entries b)
      → v.base ≡ Some (base b) → AddsAtMostOne maker v.number v.seen (entries b)
      → Allows Rule slots id me 1 (λ n. (n + 1) % 2 ^ 64) (λ _ w. PassesTurn entries me w)
  passes_at slots id me v b e has alone long based adds = subst (λ (m : M). Allows Rule slots id m 1 (λ n. (n + 1) % 2 ^ 64) (λ _ w. PassesTurn entries m w))
      (sym e) (passes slots id v b has alone long based adds ((0, Some b) ∷ []) refl)
