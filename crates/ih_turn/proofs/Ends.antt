-- A turn is made, its seats are split off the first one and joined again, and it is closed.
use Rattle.std.proofs.Common.{◌≡◌, ℕ, zero, suc, ◌+◌, ◌*◌, ◌^◌, ◌<◌, ◌≤◌, ◌≢◌, Bool, true, false, cond, eqb, eq-eqb, ne_eqb, List, [], ◌∷◌, ◌++◌, length, get_or, set, sym, refl, ap, ◌∙◌, subst, le_refl, length-set, arith}
use Rattle.std.specs.Prelude.{Option, Some}
use mathlib.Core.Option as maybe
use mathlib.Core.Logic.{dite}
use native.Mathlib.Decide.{ℕ_discrete}
use lib.ListN.{get_elem?}
use borrow.Author.Tests.{ltb-true}
use Rattle.std.specs.Prelude.{nat_lt}
use Rattle.std.proofs.lemmas.List.{append-nil}
use Rattle.std.proofs.lemmas.List.Elements.{All-nil, All-weaker}
use Rattle.atomic_table.specs.Table.{State, opening, Splits, Joins, Final, Seen}
use Rattle.atomic_table.proofs.Lists.{set_else, at_longer}
use Rattle.ih_turn.specs.declared.view.View.{View}
use Rattle.ih_turn.specs.Rule.{GoesOn, HoldsTicket, IsGiven, all_left, Knows, IsTurn, first_view, spent_view, remaining_view, split_off_view, both_views, seen_lists, with_own, Covers, AddsBelow, Closes}
use Rattle.ih_turn.proofs.Views.{not_true, same_at, on_set, there_set, on_push, before_set, later_rest, all_left_set, all_left_push, goes_on-itself}

abbrev Owners : Type 0
Owners = ℕ → maybe.Option ℕ

-- the number g goes to the seat k
abbrev given_to : ℕ → ℕ → Owners → Owners
given_to g k owner n = cond (eqb n g) (maybe.some k) (owner n)

given_here : (g k : ℕ) (owner : Owners) → given_to g k owner g ≡ maybe.some k
given_here g k owner = ap (λ (b : Bool). cond b (maybe.some k) (owner g)) (eq-eqb g g refl)

given_else : (g k : ℕ) (owner : Owners) (n : ℕ) → n ≢ g → given_to g k owner n ≡ owner n
given_else g k owner n other = ap (λ (b : Bool). cond b (maybe.some k) (owner n)) (ne_eqb n g other)

-- what belonged to the seat o belongs to the seat k
abbrev taken_over : ℕ → ℕ → maybe.Option ℕ → maybe.Option ℕ
taken_over o k maybe.none = maybe.none
taken_over o k (maybe.some j) = cond (eqb j o) (maybe.some k) (maybe.some j)

taken_here : (o k : ℕ) (x : maybe.Option ℕ) → x ≡ maybe.some o → taken_over o k x ≡ maybe.some k
taken_here o k x e = ap (taken_over o k) e ∙ ap (λ (b : Bool). cond {A = maybe.Option ℕ} b (maybe.some k) (maybe.some o)) (eq-eqb o o refl)

taken_else : (o k j : ℕ) (x : maybe.Option ℕ) → j ≢ o → x ≡ maybe.some j → taken_over o k x ≡ maybe.some j
taken_else o k j x other e = ap (taken_over o k) e ∙ ap (λ (b : Bool). cond {A = maybe.Option ℕ} b (maybe.some k) (maybe.some j)) (ne_eqb j o other)

taken_some : (o k : ℕ) (x : maybe.Option ℕ) → x ≢ maybe.none → taken_over o k x ≢ maybe.none
taken_some o k maybe.none some = absurd (some refl)
taken_some o k (maybe.some j) some = dite (ℕ_discrete j o) (λ is none. maybe.some-ne-none k (sym (taken_here o k (maybe.some j) (ap maybe.some is)) ∙ none))
    (λ other none. maybe.some-ne-none j (sym (taken_else o k j (maybe.some j) other refl) ∙ none))

module _ {B E D : Type 0} (entries : B → List E) (base : B → D) (maker : E → ℕ) (value : B) (seats turns : ℕ) where
  abbrev V : Type 0
  V = View E D

  abbrev Homes : Type 0
  Homes = List (maybe.Option (Option B))

  abbrev Rule : State (Option B) V → Type 0
  Rule = IsTurn entries base maker value seats turns

  abbrev K : List E → Owners → ℕ → V → Type 0
  K = Knows entries base maker value seats turns

  pub opens : 0 < seats → seats * turns < 2 ^ 64 → Rule (opening (0 ∷ 0 ∷ []) (Some value ∷ []) (first_view entries base value seats turns))
  opens some fits = let v : V = first_view entries base value seats turns in let owner : Owners = given_to 0 0 (λ _. maybe.none) in (
    refl,
    record {
      kept = entries value;
      owner = owner;
      fits = fits;
      room = omega arith;
      order = omega arith;
      issued = λ n le below. absurd (omega arith);
      tickets = on_push (λ i x. x.waits ≡ true → (0 ≤ x.ticket) × (x.ticket < 0)) [] v (λ q. absurd (cc)) (λ j x e q. absurd (maybe.some-ne-none x (sym e)));
      apart = on_push (λ i x. x.waits ≡ true → (j : ℕ) (y : V) → get_elem? (v ∷ []) j ≡ maybe.some y → y.waits ≡ true → x.ticket ≡ y.ticket → i ≡ j) [] v
          (λ q. absurd (cc)) (λ j x e q. absurd (maybe.some-ne-none x (sym e)));
      holder = on_push (λ i x. x.has_turn ≡ true
          → (x.spent ≡ false) × (x.waits ≡ true) × (x.ticket ≡ 0) × (◌≡◌ {A = Homes} (maybe.some (Some value) ∷ []) (maybe.none ∷ []))
          × (x.seen ≡ entries value)) [] v (λ q. absurd (cc)) (λ j x e q. absurd (maybe.some-ne-none x (sym e)));
      home = λ _. (value, refl, refl, refl);
      each = on_push (λ i x. x.spent ≡ false → K (entries value) owner i x) [] v
          (λ _. record {
            based = refl;
            started = refl;
            long = le_refl (length (entries value));
            numbered = some;
            owned = refl;
            seen = goes_on-itself maker 0
                (entries value);
            takes_in = λ k t e. absurd (maybe.some-ne-none t (sym e));
          })
          (λ j x e q. absurd (maybe.some-ne-none x (sym e)));
      gives = on_push (λ i x. 0 < x.given → (i ≡ 0) × ((n : ℕ) → x.given ≤ n → owner n ≡ maybe.none)) [] v
          (λ _. (refl, λ n more. given_else 0 0 (λ _. maybe.none) n (λ e. omega arith))) (λ j x e q. absurd (maybe.some-ne-none x (sym e)));
      grown = ([], sym (append-nil (entries value)), All-nil (λ e. IsGiven seats owner (maker e)));
    },
  )

  -- a seat with a new number is split off the first one
  pub splits : (v : V) → v.spent ≡ false → v.waits ≡ false → v.has_turn ≡ false → 0 < v.given → v.given < seats → v.each ≤ v.left → Splits Rule 0 v (remaining_view v) (split_off_view v)
  splits v live free idle gave more some st r at =
      let t : ℕ = get_or st.words 0 0 in
      let s : ℕ = get_or st.words 1 0 in
      let vs : List V = st.views in
      let w : V = remaining_view v in
      let u : V = split_off_view v in
      let ws : List V = set vs 0 w in
      let g : ℕ = v.given in
      let q = r.1 in let k : ℕ = length vs in let owner : Owners = given_to g k q.owner in let kv = q.each 0 v at live in let unowned =
      (q.gives 0 v at gave).1 in let end : length ws ≡ k = length-set vs 0 w in
      let not_new : (n i : ℕ) → q.owner n ≡ maybe.some i → n ≢ g = λ n i own same. maybe.some-ne-none i (sym own ∙ unowned n (omega arith)) in
      let still : (n i : ℕ) → q.owner n ≡ maybe.some i → owner n ≡ maybe.some i = λ n i own. given_else g k q.owner n (not_new n i own) ∙ own in
      let keeps_on : (i : ℕ) (x : V) → K q.kept q.owner i x
      → K q.kept owner i x = λ i x h. record {
        based = h.based;
        started = h.started;
        long = h.long;
        numbered = h.numbered;
        owned = still x.number i h.owned;
        seen = h.seen;
        takes_in = λ j y e. let z = h.takes_in j y e in (z.0, still y.0 i z.1, z.2);
      } in
      let hold : K q.kept owner 0 v = keeps_on 0 v kv in
      let given_some : (n : ℕ) → q.owner n ≢ maybe.none
      → owner n ≢ maybe.none = λ n is none. dite (ℕ_discrete n g) (λ e. maybe.some-ne-none k (sym (ap owner e ∙ given_here g k q.owner) ∙ none))
      (λ other. is (sym (given_else g k q.owner n other) ∙ none)) in (
        r.0,
        record {
          kept = q.kept;
          owner = owner;
          room = (let a = all_left_set vs 0 v w at in let b = all_left_push ws u in let room = q.room in omega arith);
          fits = q.fits;
          order = q.order;
          issued = λ n le below. let z = there_set (λ x. HoldsTicket x n) vs 0 v w at (λ h. h) (q.issued n le below) in (z.0, z.1, at_longer ws (u ∷ []) z.0 z.1 z.2, z.3);
          tickets = on_push (λ i x. x.waits ≡ true → (s ≤ x.ticket) × (x.ticket < t)) ws u (λ h. absurd (cc))
              (on_set (λ i x. x.waits ≡ true → (s ≤ x.ticket) × (x.ticket < t)) vs 0 w (λ h. q.tickets 0 v at h) (λ j x _ e h. q.tickets j x e h));
          apart = on_push (λ i x. x.waits ≡ true → (j : ℕ) (y : V) → get_elem? (ws ++ u ∷ []) j ≡ maybe.some y → y.waits ≡ true → x.ticket ≡ y.ticket → i ≡ j) ws u (λ h. absurd (cc))
              (on_set (λ i x. x.waits ≡ true → (j : ℕ) (y : V) → get_elem? (ws ++ u ∷ []) j ≡ maybe.some y → y.waits ≡ true → x.ticket ≡ y.ticket
              → i ≡ j) vs 0 w (λ h. let wrong : false ≡ true = sym free ∙ h in absurd (cc))
              (λ i x _ ex hx. on_push (λ j y. y.waits ≡ true → x.ticket ≡ y.ticket → i ≡ j) ws u (λ h _. absurd (cc))
              (on_set (λ j y. y.waits ≡ true → x.ticket ≡ y.ticket → i ≡ j) vs 0 w (λ h _. let wrong : false ≡ true = sym free ∙ h in absurd (cc))
              (λ j y _ ey hy eq. q.apart i x ex hx j y ey hy eq))));
          holder = on_push (λ i x. x.has_turn ≡ true → (x.spent ≡ false) × (x.waits ≡ true) × (x.ticket ≡ s) × (st.homes ≡ maybe.none ∷ []) × (x.seen ≡ q.kept)) ws u (λ h. absurd (cc))
              (on_set (λ i x. x.has_turn ≡ true
              → (x.spent ≡ false) × (x.waits ≡ true) × (x.ticket ≡ s) × (st.homes ≡ maybe.none ∷ []) × (x.seen ≡ q.kept)) vs 0 w (λ h. q.holder 0 v at h)
              (λ j x _ e h. q.holder j x e h));
          home = λ none. q.home (before_set (λ _ x. x.has_turn ≡ false) vs 0 v w at idle (λ j x e. none j x (at_longer ws (u ∷ []) j x e)));
          each = on_push (λ i x. x.spent ≡ false → K q.kept owner i x) ws u
              (λ _. record {
                based = kv.based;
                started = kv.started;
                long = kv.long;
                numbered = more;
                owned = given_here g k q.owner ∙ ap maybe.some (sym end);
                seen = record {
                  others = kv.seen.others;
                  history = kv.seen.history;
                  none = later_rest (λ e. maker e ≢ g) q.kept (entries value) q.grown.0 v.seen kv.seen.others q.grown.1 kv.seen.history (let a = kv.started in let b = kv.long in omega arith)
                      (All-weaker (λ e. IsGiven seats q.owner (maker e)) (λ e. maker e ≢ g) (λ e is same. is.1 (unowned (maker e) (omega arith))) q.grown.0 q.grown.2);
                };
                takes_in = λ j y e. absurd (maybe.some-ne-none y (sym e));
              })
              (on_set (λ i x. x.spent ≡ false → K q.kept owner i x) vs 0 w
              (λ _. record {
                based = hold.based;
                started = hold.started;
                long = hold.long;
                numbered = hold.numbered;
                owned = hold.owned;
                seen = hold.seen;
                takes_in = hold.takes_in;
              })
              (λ j x _ e h. keeps_on j x (q.each j x e h)));
          gives = on_push (λ i x. 0 < x.given → (i ≡ 0) × ((n : ℕ) → x.given ≤ n → owner n ≡ maybe.none)) ws u (λ h. absurd (omega arith))
              (on_set (λ i x. 0 < x.given → (i ≡ 0) × ((n : ℕ) → x.given ≤ n → owner n ≡ maybe.none)) vs 0 w
              (λ _. (refl, λ n le. given_else g k q.owner n (λ e. omega arith) ∙ unowned n (omega arith)))
              (λ j x other e h. absurd (other (q.gives j x e h).0)));
          grown = (q.grown.0, q.grown.1, All-weaker (λ e. IsGiven seats q.owner (maker e)) (λ e. IsGiven seats owner (maker e)) (λ e is. (is.0, given_some (maker e) is.1)) q.grown.0 q.grown.2);
        },
      )

  abbrev Joined : List E → Owners → ℕ → ℕ × List E → Type 0
  Joined kept owner i t = (t.0 < seats) × (owner t.0 ≡ maybe.some i) × GoesOn maker t.0 t.1 kept

  takes_more : (kept : List E) (owner : Owners) (i : ℕ) (one : ℕ × List E) (ts : List (ℕ × List E)) → Joined kept owner i one
      → ((k : ℕ) (t : ℕ × List E) → get_elem? ts k ≡ maybe.some t → Joined kept owner i t)
      → (k : ℕ) (t : ℕ × List E) → get_elem? (one ∷ ts) k ≡ maybe.some t → Joined kept owner i t
  takes_more kept owner i one ts first more zero t e = subst (Joined kept owner i) (maybe.some-injective one t e) first
  takes_more kept owner i one ts first more (suc k) t e = more k t e

  own_more : (kept : List E) (owner : Owners) (i n : ℕ) (xs : List E) (ts : List (ℕ × List E)) → Joined kept owner i (n, xs)
      → ((k : ℕ) (t : ℕ × List E) → get_elem? ts k ≡ maybe.some t → Joined kept owner i t)
      → (k : ℕ) (t : ℕ × List E) → get_elem? (with_own n xs ts) k ≡ maybe.some t → Joined kept owner i t
  own_more kept owner i n xs [] first more k t e = takes_more kept owner i (n, xs) [] first (λ j u q. absurd (maybe.some-ne-none u (sym q))) k t e
  own_more kept owner i n xs (y ∷ ys) first more k t e = more k t e

  -- what a seat knows, it knows of each of its seen_lists
  seen_lists_known : (kept : List E) (owner : Owners) (i : ℕ) (v : V) → K kept owner i v → (k : ℕ) (t : ℕ × List E) → get_elem? (seen_lists v) k ≡ maybe.some t → Joined kept owner i t
  seen_lists_known kept owner i v h = own_more kept owner i v.number v.seen v.joined (h.numbered, h.owned, h.seen) h.takes_in

  either_list : (P : List E → Type 0) (b : Bool) (xs ys : List E) → (b ≡ true → P ys) → P xs → P (cond b ys xs)
  either_list P true xs ys h q = h refl
  either_list P false xs ys h q = q

  -- another seat is taken in
  pub joins : (id o : ℕ) (v u : V) → v.spent ≡ false → v.waits ≡ false → v.has_turn ≡ false → u.spent ≡ false → u.waits ≡ false → u.has_turn ≡ false
      → u.joined ≡ [] → Joins Rule id v o u (both_views v u) spent_view
  joins id o v u live free idle live' free' idle' alone st r at apart there =
      let t : ℕ = get_or st.words 0 0 in
      let s : ℕ = get_or st.words 1 0 in
      let vs : List V = st.views in
      let w : V = both_views v u in
      let ws : List V = set vs id w in
      let q = r.1 in
      let there' : get_elem? vs o ≡ maybe.some u = sym (set_else vs id o w apart)
      ∙ there in let kv = q.each id v at live in let ku = q.each o u there' live' in let owner : Owners = λ n. taken_over o id (q.owner n) in
      let away : (j : ℕ) → j ≢ o → (n : ℕ) → q.owner n ≡ maybe.some j → owner n ≡ maybe.some j = λ j other n own. taken_else o id j (q.owner n) other own in
      let keeps_on : (i : ℕ) (x : V) → i ≢ o → K q.kept q.owner i x
      → K q.kept owner i x = λ i x other h. record {
        based = h.based;
        started = h.started;
        long = h.long;
        numbered = h.numbered;
        owned = away i other x.number h.owned;
        seen = h.seen;
        takes_in = λ j y e. let z = h.takes_in j y e in (z.0, away i other y.0 z.1, z.2);
      } in
      let hold : K q.kept owner id v = keeps_on id v (λ e. apart (sym e)) kv in
      let longer_there : Bool = nat_lt (length v.seen) (length u.seen) in
      let none_left : all_left (set ws o spent_view) + u.left ≡ all_left ws + 0 = all_left_set ws o u spent_view there in (
        r.0,
        record {
          kept = q.kept;
          owner = owner;
          room = (let a = all_left_set vs id v w at in let room = q.room in omega arith);
          fits = q.fits;
          order = q.order;
          issued = λ n le below. there_set (λ x. HoldsTicket x n) ws o u spent_view there (λ h. let wrong : false ≡ true = sym free' ∙ h.1 in absurd (cc))
              (there_set (λ x. HoldsTicket x n) vs id v w at (λ h. h) (q.issued n le below));
          tickets = on_set (λ i x. x.waits ≡ true → (s ≤ x.ticket) × (x.ticket < t)) ws o spent_view (λ h. absurd (cc))
              (λ j x _. on_set (λ i x. x.waits ≡ true → (s ≤ x.ticket) × (x.ticket < t)) vs id w (λ h. q.tickets id v at h)
              (λ i y _ e h. q.tickets i y e h) j x);
          apart = on_set (λ i x. x.waits ≡ true → (j : ℕ) (y : V) → get_elem? (set ws o spent_view) j ≡ maybe.some y → y.waits ≡ true → x.ticket ≡ y.ticket → i ≡ j) ws o spent_view (λ h. absurd (cc))
              (λ j x _. on_set (λ i x. x.waits ≡ true → (j : ℕ) (y : V) → get_elem? (set ws o spent_view) j ≡ maybe.some y → y.waits ≡ true
              → x.ticket ≡ y.ticket → i ≡ j) vs id w (λ h. let wrong : false ≡ true = sym free ∙ h in absurd (cc))
              (λ i x _ ex hx. on_set (λ j y. y.waits ≡ true → x.ticket ≡ y.ticket → i ≡ j) ws o spent_view (λ h _. absurd (cc))
              (λ j y _. on_set (λ j y. y.waits ≡ true → x.ticket ≡ y.ticket → i ≡ j) vs id w (λ h _. let wrong : false ≡ true = sym free ∙ h in absurd (cc))
              (λ j y _ ey hy eq. q.apart i x ex hx j y ey hy eq) j y)) j x);
          holder = on_set (λ i x. x.has_turn ≡ true → (x.spent ≡ false) × (x.waits ≡ true) × (x.ticket ≡ s) × (st.homes ≡ maybe.none ∷ []) × (x.seen ≡ q.kept)) ws o spent_view (λ h. absurd (cc))
              (λ j x _. on_set (λ i x. x.has_turn ≡ true
              → (x.spent ≡ false) × (x.waits ≡ true) × (x.ticket ≡ s) × (st.homes ≡ maybe.none ∷ []) × (x.seen ≡ q.kept)) vs id w
              (λ h. let wrong : false ≡ true = sym idle ∙ h in absurd (cc)) (λ i y _ e h. q.holder i y e h) j x);
          home = λ none. q.home (before_set (λ _ x. x.has_turn ≡ false) vs id v w at idle (before_set (λ _ x. x.has_turn ≡ false) ws o u spent_view there idle' none));
          each = on_set (λ i x. x.spent ≡ false → K q.kept owner i x) ws o spent_view (λ h. absurd (cc))
              (λ j x other at' h. on_set (λ i x. i ≢ o → x.spent ≡ false → K q.kept owner i x) vs id w
              (λ _ _. record {
                based = hold.based;
                started = hold.started;
                long = either_list (λ l. v.start ≤ length l) longer_there v.seen u.seen (λ more. let a = ltb-true (length v.seen) (length u.seen) more in let b = hold.long in omega arith) hold.long;
                numbered = hold.numbered;
                owned = hold.owned;
                seen = either_list (λ l. GoesOn maker v.number l q.kept) longer_there v.seen u.seen
                    (λ more. let a = ltb-true (length v.seen) (length u.seen) more in record {
                      others = ku.seen.others;
                      history = ku.seen.history;
                      none = later_rest (λ e. maker e ≢ v.number) q.kept v.seen kv.seen.others u.seen ku.seen.others kv.seen.history ku.seen.history
                          (let b : length v.seen ≤ length u.seen = omega arith in b) kv.seen.none;
                    }) hold.seen;
                takes_in = takes_more q.kept owner id (u.number, u.seen) (seen_lists v) (ku.numbered, taken_here o id (q.owner u.number) ku.owned, ku.seen) (seen_lists_known q.kept owner id v hold);
              })
              (λ i y _ e far h. keeps_on i y far (q.each i y e h)) j x at' other h);
          gives = on_set (λ i x. 0 < x.given → (i ≡ 0) × ((n : ℕ) → x.given ≤ n → owner n ≡ maybe.none)) ws o spent_view (λ h. absurd (omega arith))
              (λ j x _. on_set (λ i x. 0 < x.given → (i ≡ 0) × ((n : ℕ) → x.given ≤ n → owner n ≡ maybe.none)) vs id w
              (λ h. let z = q.gives id v at h in (z.0, λ n le. ap (taken_over o id) (z.1 n le)))
              (λ i y _ e h. let z = q.gives i y e h in (z.0, λ n le. ap (taken_over o id) (z.1 n le))) j x);
          grown = (
            q.grown.0,
            q.grown.1,
            All-weaker (λ e. IsGiven seats q.owner (maker e)) (λ e. IsGiven seats owner (maker e))
                (λ e is. (is.0, taken_some o id (q.owner (maker e)) is.1)) q.grown.0 q.grown.2,
          );
        },
      )

  -- what the last state says of the slot
  pub closes : (id : ℕ) (v : V) (ws : List ℕ) (xs : List (Option B)) → v.spent ≡ false → v.has_turn ≡ false → Covers seats v → Final (Seen Rule id v) ws xs
      → (b : B) × (get_elem? xs 0 ≡ maybe.some (Some b)) × (length xs ≡ 1) × Closes entries base maker value seats v b
  closes id v ws xs live idle covers f = let st = f.0 in let q = f.1.0.1 in let at = f.1.1 in let kv = q.each id v at live in
      let known = seen_lists_known q.kept q.owner id v kv in let mine : (n : ℕ) → n < seats
      → q.owner n ≡ maybe.some id = λ n below. let z = covers n below in ap q.owner (sym z.3) ∙ (known z.0 z.1 z.2).1 in
      let none : (i : ℕ) (x : V) → get_elem? st.views i ≡ maybe.some x → x.has_turn ≡ false = λ i x e. not_true x.has_turn (λ h. let k = q.each i x e (q.holder i x e h).0 in
      let same : i ≡ id = maybe.some-injective i id (sym k.owned ∙ mine x.number k.numbered) in let it = same_at st.views id x v (subst (λ (z : ℕ). get_elem? st.views z ≡ maybe.some x) same e) at in
      let wrong : false ≡ true = sym idle ∙ (ap (λ (z : V). z.has_turn) (sym it) ∙ h) in absurd (cc)) in
      let h = q.home none in let b : B = h.0 in let to : q.kept ≡ entries b = sym h.2 in (
        b,
        f.4 0 (Some b) (ap (λ (l : Homes). get_elem? l 0) h.1),
        sym f.3 ∙ ap length h.1,
        record {
          based = h.3;
          marked = λ k t e. subst (λ (l : List E). GoesOn maker t.0 t.1 l) to (known k t e).2;
          added = subst (λ (l : List E). AddsBelow maker seats (entries value) l) to
              (q.grown.0, q.grown.1, All-weaker (λ e. IsGiven seats q.owner (maker e)) (λ e. maker e < seats) (λ e is. is.0) q.grown.0 q.grown.2);
        },
      )

  pub splits_at : (id : ℕ) (v : V) → id ≡ 0 → v.spent ≡ false → v.waits ≡ false → v.has_turn ≡ false
      → 0 < v.given → v.given < seats → v.each ≤ v.left → Splits Rule id v (remaining_view v) (split_off_view v)
  splits_at id v is live free idle gave more some = subst (λ (z : ℕ). Splits Rule z v (remaining_view v) (split_off_view v)) (sym is) (splits v live free idle gave more some)
