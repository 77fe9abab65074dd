-- Links that are tied to lists: what they give, and that they stay tied.
use Rattle.std.proofs.Common.{◌≡◌, ℕ, ◌+◌, ◌-◌, ◌<◌, ◌≤◌, refl, arith, sym, ap, ◌∙◌, Bool, true, false, List, [], ◌∷◌, ◌++◌, inl, inr, Option, Some, None, length, length-append}
use Rattle.std.specs.Prelude.{◌||◌, ◌==◌, ◌⊎◌, if◌then◌else◌, ltb, map, slice_index, slice_index_or, slice_set}
use Rattle.std.proofs.lemmas.Bool.{cases_eq, cases_lt, eq-eqb, ne_eqb, lt-ltb, le-ltb, false_from_ne_true, both_ways}
use Rattle.std.proofs.lemmas.List.{get_or-set_same, get_or-set_other, length-set, get_or_past, length-map}
use Rattle.std.proofs.Math.ListN.{get_or-map}
use Rattle.std.proofs.lemmas.List.FromFn.{fill_by_all}
use Rattle.ih_links.specs.Lists.{has, without, IsOnce, is_at, following, first_of}
use Rattle.ih_links.specs.Ring.{Tied, IsPath, walk, lists_of}
use Rattle.ih_links.proofs.Members.{has-here, has-there, has-cases, has-append, once-append, without-none, has-without_self, has-without_other, once-without, length-without, length-once, is_at-true}
use Rattle.ih_links.proofs.Paths.{walk-path, last-in, before-in, behind-in, path-kept, path-pushed, path-passed, Pushed, Passed, first-read, following-read}

path-along : (f g : ℕ → ℕ) (a a' : ℕ) (xs xs' : List ℕ) → a' ≡ a → xs' ≡ xs → IsPath f g a xs a → IsPath f g a' xs' a'
path-along f g a a' xs xs' e e' p = rw (e, e') p

pub or-false : (b c : Bool) → c ≡ false → (b || c) ≡ b
or-false true c e = refl
or-false false c e = e

or-true : (b c : Bool) → c ≡ true → (b || c) ≡ true
or-true true c e = refl
or-true false c e = e

-- the head of the ring that u is on
abbrev side : List (Option ℕ) → ℕ → Option ℕ
side home u = if ltb u (length home) then slice_index_or home u None else Some (u - length home)

side-node : (home : List (Option ℕ)) (u : ℕ) → u < length home → side home u ≡ slice_index_or home u None
side-node home u h = let e = lt-ltb u (length home) h in rw e refl

side-sentinel : (home : List (Option ℕ)) (h : ℕ) → side home (length home + h) ≡ Some h
side-sentinel home h = let e = le-ltb (length home + h) (length home) (omega arith) in rw e (ap (λ k. Some k) (omega arith))

-- Two sets of tables, each as long as its counterpart.
record SameSizes (next prev : List ℕ) (home : List (Option ℕ)) (len : List ℕ) (ls : List (List ℕ))
    (next' prev' : List ℕ) (home' : List (Option ℕ)) (len' : List ℕ) (ls' : List (List ℕ)) : Type 0 where
  nexts : length next' ≡ length next
  prevs : length prev' ≡ length prev
  homes : length home' ≡ length home
  lens : length len' ≡ length len
  lists : length ls' ≡ length ls

module _ {most : ℕ} (next prev : List ℕ) (home : List (Option ℕ)) (len : List ℕ) (ls : List (List ℕ)) (t : Tied most next prev home len ls) where
  pub tied-lists : lists_of next home len ≡ ls
  tied-lists = sym (fill_by_all (λ h. walk (slice_index next) (slice_index len h) (slice_index next (length home + h))) ls (length len) [] t.count each)
    where
      each : (h : ℕ) → h < length len → slice_index_or ls h [] ≡ walk (slice_index next) (slice_index len h) (slice_index next (length home + h))
      each h below = rw (t.lens h below) (sym (walk-path (slice_index next) (slice_index prev) (length home + h) (slice_index_or ls h []) (length home + h) (t.path h below)))

  pub node-below : (h x : ℕ) → has x (slice_index_or ls h []) ≡ true → x < length home
  node-below h x m = elim (cases_lt x (length home)) [
    | inl below ↦ below
    | inr past ↦
        let e = t.homes h x in
        let none = get_or_past home x None past in
        absurd (both_ways (has x (slice_index_or ls h [])) (e ∙ ap (is_at h) none) m)
  ]

  sentinel-free : (h k : ℕ) → has (length home + k) (slice_index_or ls h []) ≡ false
  sentinel-free h k = false_from_ne_true (has (length home + k) (slice_index_or ls h [])) (λ m. let b = node-below h (length home + k) m in omega arith)

  side-ring : (h u : ℕ) → has u ((length home + h) ∷ slice_index_or ls h []) ≡ true → side home u ≡ Some h
  side-ring h u m = elim (has-cases u (length home + h) (slice_index_or ls h []) m) [
    | inl e ↦ ap (side home) (sym e) ∙ side-sentinel home h
    | inr inside ↦ side-node home u (node-below h u inside) ∙ is_at-true h (slice_index_or home u None) (sym (t.homes h u) ∙ inside)
  ]

  rings-apart : (h k u v : ℕ) → (h ≡ k → ⊥) → has u ((length home + h) ∷ slice_index_or ls h []) ≡ true → has v ((length home + k) ∷ slice_index_or ls k []) ≡ true → u ≡ v → ⊥
  rings-apart h k u v ne mu mv e =
      let eu = side-ring h u mu in
      let ev = side-ring k v mv in
      let both : Some h ≡ Some k = sym eu ∙ (ap (side home) e ∙ ev) in
      ne (cc)

  ring-below : (h u : ℕ) → h < length len → has u ((length home + h) ∷ slice_index_or ls h []) ≡ true → u < length home + length len
  ring-below h u below m = elim (has-cases u (length home + h) (slice_index_or ls h []) m) [
    | inl e ↦ omega arith
    | inr inside ↦ let b = node-below h u inside in omega arith
  ]

  sentinel-ring : (h : ℕ) → has (length home + h) ((length home + h) ∷ slice_index_or ls h []) ≡ true
  sentinel-ring h = has-here (length home + h) (length home + h) (slice_index_or ls h []) refl

  node-ring : (h u : ℕ) → has u (slice_index_or ls h []) ≡ true → has u ((length home + h) ∷ slice_index_or ls h []) ≡ true
  node-ring h u m = has-there u (length home + h) (slice_index_or ls h []) m

  -- the first of a list
  pub tied-first : (h : ℕ) → h < length len
      → ((length home ≤ slice_index next (length home + h)) × (first_of (slice_index_or ls h []) ≡ None))
      ⊎ ((slice_index next (length home + h) < length home) × (first_of (slice_index_or ls h []) ≡ Some (slice_index next (length home + h))))
  tied-first h below = elim (first-read (slice_index next) (slice_index prev) (length home + h) (slice_index_or ls h []) (length home + h) (t.path h below)) [
    | inl q ↦ inl (let e = q.0 in omega arith, q.1)
    | inr q ↦ inr (node-below h (slice_index next (length home + h)) q.0, q.1)
  ]

  pub head-below : (h x : ℕ) → has x (slice_index_or ls h []) ≡ true → h < length len
  head-below h x m = elim (cases_lt h (length len)) [
    | inl below ↦ below
    | inr past ↦
        let none = get_or_past ls h [] (rw t.count past) in
        absurd (both_ways (has x (slice_index_or ls h [])) (ap (has x) none) m)
  ]

  -- what follows a node
  pub tied-following : (h x : ℕ) → has x (slice_index_or ls h []) ≡ true
      → ((length home ≤ slice_index next x) × (following x (slice_index_or ls h []) ≡ None))
      ⊎ ((slice_index next x < length home) × (following x (slice_index_or ls h []) ≡ Some (slice_index next x)))
  tied-following h x m = elim (following-read (slice_index next) (slice_index prev) (length home + h) (slice_index_or ls h []) (length home + h) x (t.path h (head-below h x m)) m) [
    | inl q ↦ inl (let e = q.0 in omega arith, q.1)
    | inr q ↦ inr (node-below h (slice_index next x) q.0, q.1)
  ]

  -- tables of the same sizes are tied too, where each list is again a path of its own
  still-tied : (next' prev' : List ℕ) (home' : List (Option ℕ)) (len' : List ℕ) (ls' : List (List ℕ))
      → SameSizes next prev home len ls next' prev' home' len' ls'
      → ((h : ℕ) → h < length len → IsPath (slice_index next') (slice_index prev') (length home' + h) (slice_index_or ls' h []) (length home' + h))
      → ((h : ℕ) → h < length len → slice_index len' h ≡ length (slice_index_or ls' h []))
      → ((h x : ℕ) → has x (slice_index_or ls' h []) ≡ is_at h (slice_index_or home' x None))
      → ((h : ℕ) → IsOnce (slice_index_or ls' h []))
      → Tied most next' prev' home' len' ls'
  still-tied next' prev' home' len' ls' same path lens homes once =
      let nexts = t.nexts in
      let prevs = t.prevs in
      let count = t.count in
      let few = t.few in
      record {
        nexts = omega arith;
        prevs = omega arith;
        count = omega arith;
        path = λ h below. path h (omega arith);
        lens = λ h below. lens h (omega arith);
        homes = homes;
        once = once;
        few = omega arith;
      }

  module _ (head node : ℕ) (head_below : head < length len) (node_below : node < length home) (free : (h : ℕ) → has node (slice_index_or ls h []) ≡ false) where
    abbrev sentinel : ℕ
    sentinel = length home + head

    abbrev last : ℕ
    last = slice_index prev sentinel

    abbrev longer : List ℕ
    longer = slice_index_or ls head [] ++ node ∷ []

    last-ring : has last (sentinel ∷ slice_index_or ls head []) ≡ true
    last-ring = last-in (slice_index next) (slice_index prev) sentinel (slice_index_or ls head []) sentinel (t.path head head_below)

    pub last-below : last < length next
    last-below = let b = ring-below head last head_below last-ring in let n = t.nexts in omega arith

    node-off : (h u : ℕ) → has u ((length home + h) ∷ slice_index_or ls h []) ≡ true → u ≡ node → ⊥
    node-off h u m e = elim (has-cases u (length home + h) (slice_index_or ls h []) m) [
      | inl same ↦ omega arith
      | inr inside ↦ both_ways (has node (slice_index_or ls h [])) (free h) (ap (λ k. has k (slice_index_or ls h [])) (sym e) ∙ inside)
    ]

    pub room : slice_index len head + 1 ≤ length home
    room =
        let below = length-once (length home) longer (once-append (slice_index_or ls head []) node (t.once head) (free head)) each in
        let l = t.lens head head_below in
        let n = length-append (slice_index_or ls head []) (node ∷ []) in
        omega arith
      where
        each : (x : ℕ) → has x longer ≡ true → x < length home
        each x m = elim (cases_eq node x) [
          | inl e ↦ omega arith
          | inr ne ↦ node-below head x (sym (has-append x (slice_index_or ls head []) node ∙ or-false (has x (slice_index_or ls head [])) (node == x) (ne_eqb node x ne)) ∙ m)
        ]

    abbrev next' : List ℕ
    next' = slice_set (slice_set next last node) node sentinel

    abbrev prev' : List ℕ
    prev' = slice_set (slice_set prev node last) sentinel node

    pushed : Pushed (slice_index next) (slice_index prev) (slice_index next') (slice_index prev') node sentinel
    pushed =
        let n = t.nexts in
        let p = t.prevs in
        let ln = length-set next last node in
        let lp = length-set prev node last in
        let off = node-off head last last-ring in
        record {
          from_last = get_or-set_other (slice_set next last node) node last sentinel 0 off ∙ get_or-set_same next last node 0 last-below;
          to_node = get_or-set_other (slice_set prev node last) sentinel node node 0 (λ e. omega arith) ∙ get_or-set_same prev node last 0 (omega arith);
          from_node = get_or-set_same (slice_set next last node) node sentinel 0 (omega arith);
          to_end = get_or-set_same (slice_set prev node last) sentinel node 0 (omega arith);
          ahead = λ u not_last not_node. get_or-set_other (slice_set next last node) node u sentinel 0 not_node ∙ get_or-set_other next last u node 0 not_last;
          back = λ v not_node not_sentinel. get_or-set_other (slice_set prev node last) sentinel v node 0 not_sentinel ∙ get_or-set_other prev node v last 0 not_node;
        }

    abbrev home' : List (Option ℕ)
    home' = slice_set home node (Some head)

    abbrev ls' : List (List ℕ)
    ls' = slice_set ls head longer

    list-here : (h : ℕ) → h ≡ head → slice_index_or ls' h [] ≡ longer
    list-here h e = ap (λ k. slice_index_or ls' k []) e ∙ get_or-set_same ls head longer [] (rw t.count head_below)

    list-there : (h : ℕ) → (h ≡ head → ⊥) → slice_index_or ls' h [] ≡ slice_index_or ls h []
    list-there h ne = get_or-set_other ls head h longer [] ne

    push-path : (h : ℕ) → h < length len → IsPath (slice_index next') (slice_index prev') (length home' + h) (slice_index_or ls' h []) (length home' + h)
    push-path h below = elim (cases_eq h head) [
      | inl e ↦
          path-along (slice_index next') (slice_index prev') sentinel (length home' + h) longer (slice_index_or ls' h [])
          (let l = length-set home node (Some head) in omega arith) (list-here h e)
          (path-pushed (slice_index next) (slice_index prev) (slice_index next') (slice_index prev') node sentinel (slice_index_or ls head []) sentinel
          pushed (t.path head head_below) (t.once head) (sentinel-free head head) (sentinel-free head head) (free head) (λ e. omega arith))
      | inr ne ↦
          path-along (slice_index next') (slice_index prev') (length home + h) (length home' + h) (slice_index_or ls h []) (slice_index_or ls' h [])
          (let l = length-set home node (Some head) in omega arith) (list-there h ne)
          (path-kept (slice_index next) (slice_index prev) (slice_index next') (slice_index prev') (length home + h) (slice_index_or ls h []) (length home + h) (t.path h below)
          (λ u m. pushed.ahead u (rings-apart h head u last ne m last-ring) (node-off h u m))
          (λ v m. pushed.back v (node-off h v (node-ring h v m)) (rings-apart h head v sentinel ne (node-ring h v m) (sentinel-ring head)))
          (pushed.back (length home + h) (λ e. omega arith) (rings-apart h head (length home + h) sentinel ne (sentinel-ring h) (sentinel-ring head))))
    ]

    push-homes : (h x : ℕ) → has x (slice_index_or ls' h []) ≡ is_at h (slice_index_or home' x None)
    push-homes h x = elim (cases_eq x node) [
      | inl same ↦
          let read : slice_index_or home' x None ≡ Some head = ap (λ k. slice_index_or home' k None) same ∙ get_or-set_same home node (Some head) None node_below in
          elim (cases_eq h head) [
            | inl e ↦ ap (has x) (list-here h e) ∙ (has-append x (slice_index_or ls head []) node
                ∙ (or-true (has x (slice_index_or ls head [])) (node == x) (eq-eqb node x (sym same)) ∙ sym (ap (is_at h) read ∙ eq-eqb head h (sym e))))
            | inr ne ↦ ap (has x) (list-there h ne) ∙ (ap (λ k. has k (slice_index_or ls h [])) same ∙ (free h ∙ sym (ap (is_at h) read ∙ ne_eqb head h (λ e. ne (sym e)))))
          ]
      | inr other ↦
          let read : slice_index_or home' x None ≡ slice_index_or home x None = get_or-set_other home node x (Some head) None other in
          elim (cases_eq h head) [
            | inl e ↦ ap (has x) (list-here h e) ∙ (has-append x (slice_index_or ls head []) node
                ∙ (or-false (has x (slice_index_or ls head [])) (node == x) (ne_eqb node x (λ f. other (sym f)))
                ∙ (ap (λ k. has x (slice_index_or ls k [])) (sym e) ∙ (t.homes h x ∙ sym (ap (is_at h) read)))))
            | inr ne ↦ ap (has x) (list-there h ne) ∙ (t.homes h x ∙ sym (ap (is_at h) read))
          ]
    ]

    push-once : (h : ℕ) → IsOnce (slice_index_or ls' h [])
    push-once h = elim (cases_eq h head) [
      | inl e ↦ rw (list-here h e) (once-append (slice_index_or ls head []) node (t.once head) (free head))
      | inr ne ↦ rw (list-there h ne) (t.once h)
    ]

    push-lens : (h : ℕ) → h < length len → slice_index (slice_set len head (slice_index len head + 1)) h ≡ length (slice_index_or ls' h [])
    push-lens h below = elim (cases_eq h head) [
      | inl e ↦
          ap (λ k. slice_index (slice_set len head (slice_index len head + 1)) k) e ∙ (get_or-set_same len head (slice_index len head + 1) 0 head_below
          ∙ (ap (λ k. k + 1) (t.lens head head_below) ∙ (sym (length-append (slice_index_or ls head []) (node ∷ [])) ∙ sym (ap length (list-here h e)))))
      | inr ne ↦ get_or-set_other len head h (slice_index len head + 1) 0 ne ∙ (t.lens h below ∙ sym (ap length (list-there h ne)))
    ]

    pub tied-pushed : Tied most next' prev' home' (slice_set len head (slice_index len head + 1)) ls'
    tied-pushed =
        let nexts = length-set (slice_set next last node) node sentinel ∙ length-set next last node in
        let prevs = length-set (slice_set prev node last) sentinel node ∙ length-set prev node last in
        still-tied next' prev' home' (slice_set len head (slice_index len head + 1)) ls'
        (record { nexts = nexts; prevs = prevs; homes = length-set home node (Some head); lens = length-set len head (slice_index len head + 1); lists = length-set ls head longer })
        push-path push-lens push-homes push-once

  module _ (head node : ℕ) (at : slice_index_or home node None ≡ Some head) where
    abbrev before : ℕ
    before = slice_index prev node

    abbrev after : ℕ
    after = slice_index next node

    pub linked : has node (slice_index_or ls head []) ≡ true
    linked = t.homes head node ∙ (ap (is_at head) at ∙ eq-eqb head head refl)

    pub head-known : head < length len
    head-known = head-below head node linked

    before-ring : has before ((length home + head) ∷ slice_index_or ls head []) ≡ true
    before-ring = before-in (slice_index next) (slice_index prev) (length home + head) (slice_index_or ls head []) (length home + head) node (t.path head head-known) linked

    after-ring : has after ((length home + head) ∷ slice_index_or ls head []) ≡ true
    after-ring = elim (behind-in (slice_index next) (slice_index prev) (length home + head) (slice_index_or ls head []) (length home + head) node (t.path head head-known) linked) [
      | inl end ↦ has-here after (length home + head) (slice_index_or ls head []) (sym end)
      | inr inside ↦ node-ring head after inside
    ]

    pub before-below : before < length next
    before-below = let b = ring-below head before head-known before-ring in let n = t.nexts in omega arith

    pub after-below : after < length prev
    after-below = let b = ring-below head after head-known after-ring in let p = t.prevs in omega arith

    pub filled : slice_index len head ≡ length (without node (slice_index_or ls head [])) + 1
    filled = t.lens head head-known ∙ sym (length-without node (slice_index_or ls head []) (t.once head) linked)

    abbrev next- : List ℕ
    next- = slice_set next before after

    abbrev prev- : List ℕ
    prev- = slice_set prev after before

    abbrev home- : List (Option ℕ)
    home- = slice_set home node None

    abbrev ls- : List (List ℕ)
    ls- = map (without node) ls

    passed : Passed (slice_index next) (slice_index prev) (slice_index next-) (slice_index prev-) node
    passed = record {
      over = get_or-set_same next before after 0 before-below;
      under = get_or-set_same prev after before 0 after-below;
      ahead = λ u ne. get_or-set_other next before u after 0 ne;
      back = λ v ne. get_or-set_other prev after v before 0 ne;
    }

    list-less : (h : ℕ) → slice_index_or ls- h [] ≡ without node (slice_index_or ls h [])
    list-less h = get_or-map (without node) ls h []

    list-same : (h : ℕ) → (h ≡ head → ⊥) → slice_index_or ls- h [] ≡ slice_index_or ls h []
    list-same h ne = list-less h ∙ without-none node (slice_index_or ls h []) (t.homes h node ∙ (ap (is_at h) at ∙ ne_eqb head h (λ e. ne (sym e))))

    list-short : (h : ℕ) → h ≡ head → slice_index_or ls- h [] ≡ without node (slice_index_or ls head [])
    list-short h e = list-less h ∙ ap (λ k. without node (slice_index_or ls k [])) e

    pass-path : (h : ℕ) → h < length len → IsPath (slice_index next-) (slice_index prev-) (length home- + h) (slice_index_or ls- h []) (length home- + h)
    pass-path h below = elim (cases_eq h head) [
      | inl e ↦
          path-along (slice_index next-) (slice_index prev-) (length home + head) (length home- + h) (without node (slice_index_or ls head [])) (slice_index_or ls- h [])
          (let l = length-set home node None in omega arith) (list-short h e)
          (path-passed (slice_index next) (slice_index prev) (slice_index next-) (slice_index prev-) node (length home + head) (slice_index_or ls head []) (length home + head)
          passed (t.path head head-known) (t.once head) (sentinel-free head head) (sentinel-free head head) linked)
      | inr ne ↦
          path-along (slice_index next-) (slice_index prev-) (length home + h) (length home- + h) (slice_index_or ls h []) (slice_index_or ls- h [])
          (let l = length-set home node None in omega arith) (list-same h ne)
          (path-kept (slice_index next) (slice_index prev) (slice_index next-) (slice_index prev-) (length home + h) (slice_index_or ls h []) (length home + h) (t.path h below)
          (λ u m. passed.ahead u (rings-apart h head u before ne m before-ring))
          (λ v m. passed.back v (rings-apart h head v after ne (node-ring h v m) after-ring))
          (passed.back (length home + h) (rings-apart h head (length home + h) after ne (sentinel-ring h) after-ring)))
    ]

    pass-homes : (h x : ℕ) → has x (slice_index_or ls- h []) ≡ is_at h (slice_index_or home- x None)
    pass-homes h x = ap (has x) (list-less h) ∙ elim (cases_eq x node) [
      | inl same ↦
          let read : slice_index_or home- x None ≡ None = ap (λ k. slice_index_or home- k None) same ∙ get_or-set_same home node None None (node-below head node linked) in
          ap (λ k. has k (without node (slice_index_or ls h []))) same ∙ (has-without_self node (slice_index_or ls h []) ∙ sym (ap (is_at h) read))
      | inr other ↦
          has-without_other x node (slice_index_or ls h []) other ∙ (t.homes h x ∙ sym (ap (is_at h) (get_or-set_other home node x None None other)))
    ]

    pass-lens : (h : ℕ) → h < length len → slice_index (slice_set len head (slice_index len head - 1)) h ≡ length (slice_index_or ls- h [])
    pass-lens h below = elim (cases_eq h head) [
      | inl e ↦
          let full = filled in
          let less : slice_index len head - 1 ≡ length (without node (slice_index_or ls head [])) = omega arith in
          ap (λ k. slice_index (slice_set len head (slice_index len head - 1)) k) e ∙ (get_or-set_same len head (slice_index len head - 1) 0 head-known
          ∙ (less ∙ sym (ap length (list-short h e))))
      | inr ne ↦ get_or-set_other len head h (slice_index len head - 1) 0 ne ∙ (t.lens h below ∙ sym (ap length (list-same h ne)))
    ]

    pub tied-passed : Tied most next- prev- home- (slice_set len head (slice_index len head - 1)) ls-
    tied-passed =
        still-tied next- prev- home- (slice_set len head (slice_index len head - 1)) ls-
        (record {
          nexts = length-set next before after;
          prevs = length-set prev after before;
          homes = length-set home node None;
          lens = length-set len head (slice_index len head - 1);
          lists = length-map ls (without node);
        })
        pass-path pass-lens pass-homes (λ h. rw (list-less h) (once-without node (slice_index_or ls h []) (t.once h)))
