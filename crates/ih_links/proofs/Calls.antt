-- What the calls of links need and leave, over what their code reads.
use Rattle.std.proofs.Common.{◌≡◌, ℕ, ◌+◌, ◌-◌, ◌<◌, ◌≤◌, refl, arith, sym, ap, ◌∙◌, subst, true, false, List, [], ◌∷◌, ◌++◌, inl, inr, Option, Some, None, length}
use Rattle.std.specs.Prelude.{◌==◌, map, slice_index, slice_index_or, slice_set}
use Rattle.std.proofs.Math.ListN.{get_or-map}
use Rattle.std.proofs.lemmas.List.{get_or_default, length-map, map-set}
use Rattle.std.proofs.lemmas.Bool.{eq-eqb, ne_eqb, lt-ltb, le-ltb, both_ways}
use Rattle.ih_links.specs.Lists.{LinksState, list_of, has, without, is_at, following, first_of}
use Rattle.ih_links.specs.Ring.{IsRinged, Tied, home_of, homes_of, lists_of, node_in}
use Rattle.ih_links.proofs.Members.{is_at-true}
use Rattle.ih_links.proofs.Empty.{home-none}
use Rattle.ih_links.proofs.Ties.{tied-lists, node-below, tied-first, tied-following, last-below, room, tied-pushed, before-below, after-below, filled, tied-passed, head-known}

node_in-node : (n place : ℕ) → place < n → node_in n place ≡ Some place
node_in-node n place h = let e = lt-ltb place n h in rw e refl

node_in-sentinel : (n place : ℕ) → n ≤ place → node_in n place ≡ None
node_in-sentinel n place h = let e = le-ltb place n h in rw e refl

-- a home below the greatest number is a head's
home_of-head : (most h : ℕ) → h < most → home_of most h ≡ Some h
home_of-head most h below = let e = ne_eqb h most (λ e. omega arith) in rw e refl

module _ (node : ℕ) (v : LinksState) {h : ℕ} (found : Option ℕ) (found_is : (k : ℕ) → has node (list_of v k) ≡ is_at k found) (some : found ≡ Some h) where
  -- a node that has a home is in a list
  pub home-linked : has node (list_of v h) ≡ true
  home-linked = found_is h ∙ (ap (is_at h) some ∙ eq-eqb h h refl)

  -- a node that is in no list has no home
  pub free-home : ((k : ℕ) → has node (list_of v k) ≡ false) → ⊥
  free-home free = both_ways (has node (list_of v h)) (free h) home-linked

module _ {most : ℕ} {next prev len : List ℕ} {v : LinksState} (raw : List ℕ) (tied : IsRinged most next prev (homes_of most raw) len)
    (view_is : ◌≡◌ {A = LinksState} (record { lists = lists_of next (homes_of most raw) len; nodes = length raw }) v) where
  abbrev home : List (Option ℕ)
  home = homes_of most raw

  abbrev ls : List (List ℕ)
  ls = v.lists

  t : Tied most next prev home len ls
  t = subst (Tied most next prev home len) (ap (λ (w : LinksState). w.lists) view_is) tied

  nodes_are : length home ≡ v.nodes
  nodes_are = length-map raw (home_of most) ∙ ap (λ (w : LinksState). w.nodes) view_is

  module _ (head node sentinel last : ℕ) (head_below : head < length ls) (node_below : node < v.nodes) (free : (h : ℕ) → has node (list_of v h) ≡ false)
      (sentinel_is : sentinel ≡ v.nodes + head) (last_is : last ≡ slice_index_or prev sentinel last) where
    head_in : head < length len
    head_in = let c = t.count in omega arith

    node_inside : node < length home
    node_inside = let n = nodes_are in omega arith

    sentinel_read : sentinel ≡ length home + head
    sentinel_read = sentinel_is ∙ ap (λ k. k + head) (sym nodes_are)

    last_read : last ≡ slice_index prev (length home + head)
    last_read = last_is ∙ (get_or_default prev sentinel last 0 (let p = t.prevs in let b = head_in in let n = nodes_are in omega arith) ∙ ap (slice_index prev) sentinel_read)

    -- the head has another number than the one that says none
    pub push-head : head < most
    push-head = let f = t.few in let b = head_in in let i = node_inside in omega arith

    pub push-last : last < length next
    push-last = rw last_read (last-below next prev home len ls t head node head_in node_inside free)

    module _ (count : ℕ) (count_is : count ≡ slice_index_or len head count) where
      count_read : count ≡ slice_index len head
      count_read = count_is ∙ get_or_default len head count 0 head_in

      pub push-room : count + 1 ≤ most
      push-room = let r = room next prev home len ls t head node head_in node_inside free in let f = t.few in let e = count_read in let b = head_in in omega arith

      abbrev next' : List ℕ
      next' = slice_set (slice_set next last node) node sentinel

      abbrev prev' : List ℕ
      prev' = slice_set (slice_set prev node last) sentinel node

      abbrev home' : List (Option ℕ)
      home' = homes_of most (slice_set raw node head)

      homes' : slice_set home node (Some head) ≡ home'
      homes' = ap (slice_set home node) (sym (home_of-head most head push-head)) ∙ sym (map-set (home_of most) raw node head)

      abbrev len' : List ℕ
      len' = slice_set len head (count + 1)

      abbrev ls' : List (List ℕ)
      ls' = slice_set ls head (list_of v head ++ node ∷ [])

      pushed : Tied most next' prev' home' len' ls'
      pushed = subst (λ hs. Tied most next' prev' hs len' ls') homes' (rw (sentinel_read, last_read, count_read) (tied-pushed next prev home len ls t head node head_in node_inside free))

      pub push-lists : lists_of next' home' len' ≡ ls'
      push-lists = tied-lists next' prev' home' len' ls' pushed

      pub push-tied : Tied most next' prev' home' len' (lists_of next' home' len')
      push-tied = subst (Tied most next' prev' home' len') (sym push-lists) pushed

  module _ (head node before after : ℕ) (found : Option ℕ) (found_is : (k : ℕ) → has node (list_of v k) ≡ is_at k found) (some : found ≡ Some head)
      (before_is : before ≡ slice_index_or prev node before) (after_is : after ≡ slice_index_or next node after) where
    linked : has node (list_of v head) ≡ true
    linked = home-linked node v found found_is some

    inside : node < length home
    inside = node-below next prev home len ls t head node linked

    at : slice_index_or home node None ≡ Some head
    at = is_at-true head (slice_index_or home node None) (sym (t.homes head node) ∙ linked)

    before_read : before ≡ slice_index prev node
    before_read = before_is ∙ get_or_default prev node before 0 (let p = t.prevs in let i = inside in omega arith)

    after_read : after ≡ slice_index next node
    after_read = after_is ∙ get_or_default next node after 0 (let n = t.nexts in let i = inside in omega arith)

    pub remove-before : before < length next
    remove-before = rw before_read (before-below next prev home len ls t head node at)

    pub remove-after : after < length prev
    remove-after = rw after_read (after-below next prev home len ls t head node at)

    module _ (count : ℕ) (count_is : count ≡ slice_index_or len head count) where
      taken : count ≡ slice_index len head
      taken = count_is ∙ get_or_default len head count 0 (head-known next prev home len ls t head node at)

      pub remove-room : 1 ≤ count
      remove-room = let f = filled next prev home len ls t head node at in let e = taken in omega arith

      abbrev next- : List ℕ
      next- = slice_set next before after

      abbrev prev- : List ℕ
      prev- = slice_set prev after before

      abbrev home- : List (Option ℕ)
      home- = homes_of most (slice_set raw node most)

      homes- : slice_set home node None ≡ home-
      homes- = ap (slice_set home node) (sym (home-none most)) ∙ sym (map-set (home_of most) raw node most)

      abbrev len- : List ℕ
      len- = slice_set len head (count - 1)

      abbrev ls- : List (List ℕ)
      ls- = map (without node) ls

      passed : Tied most next- prev- home- len- ls-
      passed = subst (λ hs. Tied most next- prev- hs len- ls-) homes- (rw (before_read, after_read, taken) (tied-passed next prev home len ls t head node at))

      pub remove-lists : lists_of next- home- len- ≡ ls-
      remove-lists = tied-lists next- prev- home- len- ls- passed

      pub remove-tied : Tied most next- prev- home- len- (lists_of next- home- len-)
      remove-tied = subst (Tied most next- prev- home- len-) (sym remove-lists) passed

  module _ (head first : ℕ) (head_below : head < length ls) (first_is : first ≡ slice_index_or next (v.nodes + head) first) where
    head_inside : head < length len
    head_inside = let c = t.count in omega arith

    first_read : first ≡ slice_index next (length home + head)
    first_read =
        first_is ∙ get_or_default next (v.nodes + head) first 0 (let n = t.nexts in let b = head_inside in let e = nodes_are in omega arith)
        ∙ ap (λ k. slice_index next (k + head)) (sym nodes_are)

    pub first-answer : node_in v.nodes first ≡ first_of (list_of v head)
    first-answer = rw (← nodes_are, first_read) (elim (tied-first next prev home len ls t head head_inside) [
      | inl q ↦ node_in-sentinel (length home) (slice_index next (length home + head)) q.0 ∙ sym q.1
      | inr q ↦ node_in-node (length home) (slice_index next (length home + head)) q.0 ∙ sym q.1
    ])

  module _ (node after : ℕ) (node_below : node < v.nodes) (after_is : after ≡ slice_index_or next node after) where
    behind_read : after ≡ slice_index next node
    behind_read = after_is ∙ get_or_default next node after 0 (let n = t.nexts in let e = nodes_are in omega arith)

    pub next-answer : (h : ℕ) → has node (list_of v h) ≡ true → node_in v.nodes after ≡ following node (list_of v h)
    next-answer h m = rw (← nodes_are, behind_read) (elim (tied-following next prev home len ls t h node m) [
      | inl q ↦ node_in-sentinel (length home) (slice_index next node) q.0 ∙ sym q.1
      | inr q ↦ node_in-node (length home) (slice_index next node) q.0 ∙ sym q.1
    ])

  module _ (node head : ℕ) (node_below : node < v.nodes) (head_is : head ≡ slice_index_or raw node head) where
    home_read : slice_index_or home node None ≡ home_of most head
    home_read =
        let inside : node < length raw = let n = ap (λ (w : LinksState). w.nodes) view_is in omega arith in
        let default = get_or_default raw node head most inside in
        ap (λ o. slice_index_or home node o) (sym (home-none most))
        ∙ (get_or-map (home_of most) raw node most ∙ ap (home_of most) (sym (head_is ∙ default)))

    -- a node with the greatest number for a head is in no list
    pub home-none-answer : head ≡ most → (h : ℕ) → has node (list_of v h) ≡ false
    home-none-answer e h = t.homes h node ∙ ap (is_at h) (home_read ∙ (ap (home_of most) e ∙ home-none most))

    pub home-some-answer : (head ≡ most → ⊥) → (h : ℕ) → has node (list_of v h) ≡ (head == h)
    home-some-answer ne h =
        let some : home_of most head ≡ Some head = (let e = ne_eqb head most ne in rw e refl) in
        t.homes h node ∙ ap (is_at h) (home_read ∙ some)
