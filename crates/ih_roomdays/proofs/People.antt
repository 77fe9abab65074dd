-- The persons in a room on a day.
use Rattle.std.proofs.Common.{◌≡◌, ℕ, zero, suc, ◌+◌, ◌*◌, ◌<◌, ◌≤◌, refl, arith, sym, ap, ◌∙◌, Bool, true, false, List, [], ◌∷◌, ◌++◌, length, get_or, mul_comm, inl, inr}
use Rattle.std.specs.Prelude.{◌||◌, ◌==◌, nat_eq, if◌then◌else◌}
use Rattle.std.specs.List.{IsDistinct, AllByRecursion}
use Rattle.std.proofs.lemmas.Bool.{cases_lt, ne_eqb, false_from_ne_true}
use Rattle.std.proofs.lemmas.List.{get_or_read}
use Rattle.std.proofs.lemmas.Nat.{mul-add-lt}
use Rattle.ih_links.specs.Lists.{LinksState, has, IsOnce}
use Rattle.ih_links.specs.Days.{on_day}
use Rattle.ih_links.proofs.Members.{lacks, length-once, once-append}
use Rattle.ih_plan.proofs.ListedBelow.{has as has_number, has-which_below, which_below-has, has-listed}
use Rattle.ih_plan.specs.Sums.{which_below, is_listed}
use Rattle.ih_roomdays.specs.declared.occupancies.Crowd.{Crowd}
use Rattle.ih_roomdays.specs.declared.room_lists.RoomLists.{RoomLists}
use Rattle.ih_roomdays.specs.Occupancy.{IsSmall, nobody}
use Rattle.ih_roomdays.specs.Profiles.{most_persons}
use Rattle.ih_roomdays.specs.RoomLists.{AreRoomLists, persons_at, crowd_at}
use Rattle.ih_roomdays.proofs.Tallies.{occupancy-small}

-- two tests of what is in a list agree
has-number : (x : ℕ) (xs : List ℕ) → has x xs ≡ has_number x xs
has-number x [] = refl
has-number x (y ∷ ys) = ap (λ b. (y == x) || b) (has-number x ys)

pub has-is_listed : (x : ℕ) (xs : List ℕ) → has x xs ≡ is_listed x xs
has-is_listed x xs = has-number x xs ∙ has-listed x xs

-- what is read of a day is its lists
pub day-read : (v : RoomLists) (d : ℕ) (day : LinksState) → AreRoomLists v → d < v.days → day ≡ get_or v.links.items d day → day ≡ on_day v.links.items d
day-read v d day rows below e = get_or_read v.links.items d day (rw rows.each_day below) e (record { lists = []; nodes = 0 })

-- a room and a day have a place among what is kept
pub place-inside : (v : RoomLists) (r d : ℕ) → r < v.rooms → d < v.days → r * v.days + d < v.rooms * v.days
place-inside v r d room below = rw (mul_comm v.rooms v.days) (mul-add-lt r v.days d v.rooms room below)

-- what is read there is the summary of the room's day
pub crowd-read : (v : RoomLists) (r d : ℕ) (c : Crowd) → AreRoomLists v → r < v.rooms → d < v.days → c ≡ get_or v.crowds.items (r * v.days + d) c → c ≡ crowd_at v r d
crowd-read v r d c rows room below e =
    get_or_read v.crowds.items (r * v.days + d) c (let place = place-inside v r d room below in omega (arith, rows.crowds)) e nobody

-- there are no more of them than an instance has
pub persons-few : (v : RoomLists) (r d : ℕ) → AreRoomLists v → d < v.days → length (persons_at v r d) ≤ most_persons
persons-few v r d rows below =
    let all = length-once v.persons (persons_at v r d) (rows.once r d below) (λ y there. rows.known r d y below there) in
    let few = rows.few_persons in
    omega arith

-- so the summary of them is small
pub crowd-small : (v : RoomLists) (r d : ℕ) → AreRoomLists v → d < v.days → IsSmall (crowd_at v r d).occupancy
crowd-small v r d rows below =
    occupancy-small v.persons v.profiles (persons_at v r d) (crowd_at v r d).occupancy rows.profiles (rows.kept r d below).occupancy (persons-few v r d rows below)

all-apart : (x : ℕ) (xs : List ℕ) → has x xs ≡ false → AllByRecursion (λ y. nat_eq x y ≡ false) xs
all-apart x [] free = tt
all-apart x (y ∷ ys) free = let p = lacks x y ys free in (ne_eqb x y (λ e. p.0 (sym e)), all-apart x ys p.1)

pub once-distinct : (xs : List ℕ) → IsOnce xs → IsDistinct nat_eq xs
unfolding IsDistinct
once-distinct [] once = tt
once-distinct (x ∷ xs) once = (all-apart x xs once.0, once-distinct xs once.1)

-- ---- the numbers below n that pass

pub has-passing : (n x : ℕ) (p : ℕ → Bool) → (p x ≡ true → x < n) → has x (which_below n p) ≡ p x
has-passing n x p inside = has-number x (which_below n p) ∙ elim (cases_lt x n) [
  | inl below ↦ has-which_below n x p below
  | inr past ↦ false_from_ne_true (has_number x (which_below n p)) (λ m. let q = which_below-has n x p m in omega (arith, q.0))
      ∙ sym (false_from_ne_true (p x) (λ m. let q = inside m in omega (arith, q)))
]

pub once-passing : (n : ℕ) (p : ℕ → Bool) → IsOnce (which_below n p)
unfolding which_below
once-passing zero p = tt
once-passing (suc n) p = by_case (p n) (once-passing n p)
  where
    past : has n (which_below n p) ≡ false
    past = false_from_ne_true (has n (which_below n p)) (λ m. let q = which_below-has n n p (sym (has-number n (which_below n p)) ∙ m) in omega (arith, q.0))

    by_case : (b : Bool) → IsOnce (which_below n p) → IsOnce (if b then which_below n p ++ n ∷ [] else which_below n p)
    by_case true once = once-append (which_below n p) n once past
    by_case false once = once
