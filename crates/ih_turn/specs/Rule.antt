-- The rule of a turn, between any two steps, and what each step does to the view of the seat that steps.
-- Word 0 is `ticket`, the tickets handed out, and word 1 is `serving`, those that are done with. The one slot holds the
-- value.
use Rattle.std.specs.Prelude.{◌≡◌, ◌≢◌, ℕ, ◌+◌, ◌-◌, ◌*◌, ◌^◌, ◌<◌, ◌≤◌, ◌==◌, ◌⊎◌, Bool, true, false, cond, nat_lt, List, [], ◌∷◌, ◌++◌, length, map, drop, slice_index, Option, Some, None, All, count_by}
use mathlib.Core.Option as maybe
use lib.ListN.{get_elem?}
use Rattle.atomic_table.specs.Table.{State, Me, Step}
use Rattle.ih_turn.specs.declared.view.View.{View}

-- xs begins with what was seen, and past that has no entry by n
pub record GoesOn {E : Type 0} (maker : E → ℕ) (n : ℕ) (seen xs : List E) : Type 0 where
  pub others : List E
  pub history : xs ≡ seen ++ others
  pub none : All (λ e. maker e ≢ n) others

-- the number n belongs to some seat
abbrev pub IsGiven : ℕ → (ℕ → maybe.Option ℕ) → ℕ → Type 0
IsGiven seats owner n = (n < seats) × (owner n ≢ maybe.none)

-- the view is of a seat that waits with the ticket n
abbrev pub HoldsTicket : {E D : Type 0} → View E D → ℕ → Type 0
HoldsTicket v n = (v.spent ≡ false) × (v.waits ≡ true) × (v.ticket ≡ n)

-- one of the seats waits with the ticket n
abbrev pub IsHeld : {E D : Type 0} → List (View E D) → ℕ → Type 0
IsHeld {E} {D} views n = (i : ℕ) × (v : View E D) × (get_elem? views i ≡ maybe.some v) × HoldsTicket v n

-- the turns that all seats have left
abbrev pub all_left : {E D : Type 0} → List (View E D) → ℕ
all_left [] = 0
all_left (v ∷ vs) = v.left + all_left vs

module _ {B E D : Type 0} (entries : B → List E) (base : B → D) (maker : E → ℕ) (opening : B) (seats turns : ℕ) where
  -- what the seat that steps with the view i knows, of the list that is kept and of who has each number
  pub record Knows (kept : List E) (owner : ℕ → maybe.Option ℕ) (i : ℕ) (v : View E D) : Type 0 where
    -- the base and the first length are those that the turn was made with
    pub based : v.base ≡ Some (base opening)
    pub started : v.start ≡ length (entries opening)
    -- the list has only grown since
    pub long : v.start ≤ length v.seen
    -- the seat's number is its own
    pub numbered : v.number < seats
    pub owned : owner v.number ≡ maybe.some i
    -- the kept list begins with what the seat has seen, and what follows isn't the seat's
    pub seen : GoesOn maker v.number v.seen kept
    -- so it is with each seat that this one has taken in
    pub takes_in : (k : ℕ) (t : ℕ × List E) → get_elem? v.joined k ≡ maybe.some t
        → (t.0 < seats) × (owner t.0 ≡ maybe.some i) × GoesOn maker t.0 t.1 kept

  -- the two words, the slot and the views
  pub record Turns (ticket serving : ℕ) (homes : List (maybe.Option (Option B))) (views : List (View E D))
      : Type 0 where
    -- the value's list, and the view that has each number
    pub kept : List E
    pub owner : ℕ → maybe.Option ℕ
    -- no count of turns comes round to 0: each ticket uses up one of the turns that were given
    pub fits : seats * turns < 2 ^ 64
    pub room : ticket + all_left views ≤ seats * turns
    -- tickets done with were handed out
    pub order : serving ≤ ticket
    -- who waits has a ticket that was handed out and isn't done with
    pub tickets : (i : ℕ) (v : View E D) → get_elem? views i ≡ maybe.some v → v.waits ≡ true
        → (serving ≤ v.ticket) × (v.ticket < ticket)
    -- each such ticket is held
    pub issued : (n : ℕ) → serving ≤ n → n < ticket → IsHeld views n
    -- by one seat alone
    pub apart : (i : ℕ) (v : View E D) → get_elem? views i ≡ maybe.some v → v.waits ≡ true
        → (j : ℕ) (w : View E D) → get_elem? views j ≡ maybe.some w → w.waits ≡ true
        → v.ticket ≡ w.ticket → i ≡ j
    -- who has the turn holds the ticket that is served, the slot is empty, and it has seen the whole list
    pub holder : (i : ℕ) (v : View E D) → get_elem? views i ≡ maybe.some v → v.has_turn ≡ true
        → (v.spent ≡ false) × (v.waits ≡ true) × (v.ticket ≡ serving) × (homes ≡ maybe.none ∷ []) × (v.seen ≡ kept)
    -- where nobody has the turn, the value is in the slot
    pub home : ((i : ℕ) (v : View E D) → get_elem? views i ≡ maybe.some v → v.has_turn ≡ false)
        → (b : B) × (homes ≡ maybe.some (Some b) ∷ []) × (entries b ≡ kept) × (base b ≡ base opening)
    -- what each seat knows is so
    pub each : (i : ℕ) (v : View E D) → get_elem? views i ≡ maybe.some v → v.spent ≡ false → Knows kept owner i v
    -- seats are split off the first one alone, and the numbers not given yet have no owner
    pub gives : (i : ℕ) (v : View E D) → get_elem? views i ≡ maybe.some v → 0 < v.given
        → (i ≡ 0) × ((n : ℕ) → v.given ≤ n → owner n ≡ maybe.none)
    -- what was added to the list is by seats that are there
    pub grown : (rest : List E) × (kept ≡ entries opening ++ rest) × All (λ e. IsGiven seats owner (maker e)) rest

  -- the state of the table between any two steps
  abbrev pub IsTurn : State (Option B) (View E D) → Type 0
  IsTurn s = (length s.words ≡ 2) × Turns (slice_index s.words 0) (slice_index s.words 1) s.homes s.views

-- the first seat, with so many turns left, whose next split-off seat gets this number and so many turns
abbrev pub root_view : {B E D : Type 0} → (B → List E) → (B → D) → B → ℕ → ℕ → ℕ → View E D
root_view entries base opening left given turns = record {
  spent = false;
  number = 0;
  seen = entries opening;
  base = Some (base opening);
  start = length
      (entries opening);
  left = left;
  waits = false;
  ticket = 0;
  has_turn = false;
  each = turns;
  given = given;
  joined = [];
}

-- the view of the first seat, which has all turns and has split off none
abbrev pub first_view : {B E D : Type 0} → (B → List E) → (B → D) → B → ℕ → ℕ → View E D
first_view entries base opening seats turns = root_view entries base opening (seats * turns) 1 turns

-- the longer one, which the other begins
abbrev pub longer : {E : Type 0} → List E → List E → List E
longer xs ys = cond (nat_lt (length xs) (length ys)) ys xs

-- what was taken in, or else the seat's own number and list
abbrev pub with_own : {E : Type 0} → ℕ → List E → List (ℕ × List E) → List (ℕ × List E)
with_own n xs [] = (n, xs) ∷ []
with_own n xs (t ∷ ts) = t ∷ ts

module _ {E D : Type 0} where
  -- the view of a seat that was taken in by another
  abbrev pub spent_view : View E D
  spent_view = record {
    spent = true;
    number = 0;
    seen = [];
    base = None;
    start = 0;
    left = 0;
    waits = false;
    ticket = 0;
    has_turn = false;
    each = 0;
    given = 0;
    joined = [];
  }

  -- a seat from which another was split off: that one's turns are gone from its own
  abbrev pub remaining_view : View E D → View E D
  remaining_view v = record v { left = v.left - v.each; given = v.given + 1 }

  -- the seat that was split off: it has the next number and its turns
  abbrev pub split_off_view : View E D → View E D
  split_off_view v = record v {
    number = v.given;
    left = v.each;
    waits = false;
    has_turn = false;
    each = 0;
    given = 0;
    joined = [];
  }

  -- each number with the list that its seat had seen, once the view's seat takes in others, its own among them
  abbrev pub seen_lists : View E D → List (ℕ × List E)
  seen_lists v = with_own v.number v.seen v.joined

  -- a seat that has taken in another: it has seen the longer list, and remembers what each had seen
  abbrev pub both_views : View E D → View E D → View E D
  both_views v w = record v { seen = longer v.seen w.seen; joined = (w.number, w.seen) ∷ seen_lists v }

  -- the seat has a ticket, and one turn fewer
  abbrev pub queued : View E D → ℕ → View E D
  queued v n = record v { left = v.left - 1; waits = true; ticket = n }

  -- the seat has the turn, and has seen the list
  abbrev pub served : View E D → List E → View E D
  served v xs = record v { has_turn = true; seen = xs }

  -- the seat has passed the turn on, and has seen the list
  abbrev pub passed : View E D → List E → View E D
  passed v xs = record v { has_turn = false; waits = false; seen = xs }

  -- the seat holds the ticket that it was handed
  abbrev pub TakesTicket : {S : Type 0} → Step S → Me S (View E D) → ℕ → Me S (View E D) → Type 0
  TakesTicket st m n w = w ≡ (queued m.0 n, m.1)

  -- where the ticket is served, the seat has the slot with the value b in its hands
  abbrev pub ReadsServing : {B : Type 0} → (B → List E) → (B → D) → (E → ℕ) → Step (Option B)
      → Me (Option B) (View E D) → ℕ → Me (Option B) (View E D) → Type 0
  ReadsServing {B} entries base maker st m n w =
      (n ≡ m.0.ticket → (b : B) × (w ≡ (served m.0 (entries b), (0, Some b) ∷ m.1))
      × GoesOn maker m.0.number m.0.seen (entries b)
      × (m.0.base ≡ Some (base b)) × (m.0.start ≤ length (entries b)))
      × (n ≢ m.0.ticket → w ≡ m)

  -- the seat that put the value back has passed the turn on, and has seen the list that it put back
  abbrev pub PassesTurn : {B : Type 0} → (B → List E) → Me (Option B) (View E D) → Me (Option B) (View E D) → Type 0
  PassesTurn {B} entries m w = (b : B) → m.1 ≡ (0, Some b) ∷ [] → w ≡ (passed m.0 (entries b), [])

-- how many entries of the list, past the first start of them, have n as their maker
abbrev pub added_by : {E : Type 0} → (E → ℕ) → ℕ → ℕ → List E → ℕ
added_by maker n start xs = count_by (λ e. maker e == n) (drop start xs)

-- how many entries of the list that the seat has seen were added since the making and are its own
abbrev pub made_by : {E D : Type 0} → (E → ℕ) → View E D → ℕ
made_by maker v = added_by maker v.number v.start v.seen

-- the seat has the turn, or holds not even a ticket, and has taken in no other
pub record Stands {E D : Type 0} (has : Bool) (v : View E D) : Type 0 where
  -- it wasn't taken in by another, has a ticket and the turn or neither, has taken in no other, and its list has only
  -- grown
  pub whole : v.spent ≡ false
  pub ticket : v.waits ≡ has
  pub turn : v.has_turn ≡ has
  pub alone : v.joined ≡ []
  pub long : v.start ≤ length v.seen

-- the seat holds neither a ticket nor the turn
abbrev pub Rests : {E D : Type 0} → View E D → Type 0
Rests v = Stands false v

-- the seat has the turn
abbrev pub Serves : {E D : Type 0} → View E D → Type 0
Serves v = Stands true v

-- the view is of a seat of the turn that was made with the value opening
pub record IsViewOf {B E D : Type 0} (entries : B → List E) (base : B → D) (opening : B) (v : View E D) : Type 0 where
  pub based : v.base ≡ Some (base opening)
  pub started : v.start ≡ length (entries opening)

-- the list is xs, or xs with one entry more, whose maker is n
abbrev pub AddsAtMostOne : {E : Type 0} → (E → ℕ) → ℕ → List E → List E → Type 0
AddsAtMostOne {E} maker n xs ys = (ys ≡ xs) ⊎ ((e : E) × (ys ≡ xs ++ e ∷ []) × (maker e ≡ n))

-- one of the lists is that of the number n
abbrev pub HasNumber : {E : Type 0} → List (ℕ × List E) → ℕ → Type 0
HasNumber {E} ts n = (k : ℕ) × (t : ℕ × List E) × (get_elem? ts k ≡ maybe.some t) × (t.0 ≡ n)

-- one of the lists is that of each number below seats
abbrev pub Covers : {E D : Type 0} → ℕ → View E D → Type 0
Covers seats v = (n : ℕ) → n < seats → HasNumber (seen_lists v) n

-- the list is the opening one with entries more, each by a maker below seats
abbrev pub AddsBelow : {E : Type 0} → (E → ℕ) → ℕ → List E → List E → Type 0
AddsBelow {E} maker seats xs ys = (rest : List E) × (ys ≡ xs ++ rest) × All (λ e. maker e < seats) rest

-- the value at the end, where a seat with the view v has taken in all others
pub record Closes {B E D : Type 0} (entries : B → List E) (base : B → D) (maker : E → ℕ) (opening : B) (seats : ℕ)
    (v : View E D) (b : B) : Type 0 where
  pub based : base b ≡ base opening
  pub marked : (k : ℕ) (t : ℕ × List E) → get_elem? (seen_lists v) k ≡ maybe.some t → GoesOn maker t.0 t.1 (entries b)
  pub added : AddsBelow maker seats (entries opening) (entries b)

-- the first seat, while r of the seats are not split off yet, itself among them
abbrev pub splitting_view : {B E D : Type 0} → (B → List E) → (B → D) → B → ℕ → ℕ → ℕ → View E D
splitting_view entries base opening r given turns = root_view entries base opening (r * turns) given turns

-- a seat that was split off, which splits off none
abbrev pub seat_view : {B E D : Type 0} → (B → List E) → (B → D) → B → ℕ → ℕ → View E D
seat_view entries base opening number turns = record (root_view entries base opening turns 0 0) { number = number }

-- their numbers are 1, 2 and so on, and each meets P
abbrev pub AreNumberedFromOne : {A : Type 0} → (A → ℕ) → (A → Type 0) → List A → Type 0
AreNumberedFromOne number P xs = ((k : ℕ) → k < length xs → slice_index (map number xs) k ≡ k + 1) × All P xs
