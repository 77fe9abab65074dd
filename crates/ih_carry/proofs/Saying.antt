-- What isn't kept is said.
use Rattle.std.proofs.Common.{◌≡◌, ◌∙◌, ℕ, zero, suc, ◌+◌, ◌*◌, ◌-◌, ◌<◌, ◌≤◌, Bool, true, false, List, [], ◌∷◌, length, get_or, map, refl, sym, ap, subst, arith, ◌⊎◌, inl, inr, Option, Some, None}
use Rattle.std.specs.Prelude.{◌≢◌, ◌==◌, ◌&&◌, AllPairs, IfSome, Result, Ok, Err, if◌then◌else◌, ok_or, option_and_then, option_map, slice_get}
use Rattle.std.specs.Bool.{Decides}
use Rattle.std.specs.Option.{option_map_or}
use Rattle.std.specs.Result.{result_err, result_ok}
use Rattle.std.specs.Str.{bytes_eq}
use Rattle.std.proofs.lemmas.Bool.{cases_lt, eq-eqb, le-ltb, lt-ltb, true_from_ne_false}
use Rattle.std.proofs.lemmas.Option.{slice_get_cases}
use Rattle.std.proofs.lemmas.Slice.Eq.{bytes_eq-Decides}
use Rattle.ih_tables.specs.declared.drafts.Draft.{Draft}
use Rattle.ih_tables.specs.declared.drafts.Room.{Room}
use Rattle.ih_tables.specs.declared.ids.Day.{Day}
use Rattle.ih_tables.specs.declared.ids.NurseNo.{NurseNo}
use Rattle.ih_tables.specs.declared.ids.RoomNo.{RoomNo}
use Rattle.ih_tables.specs.Lookups.{number_in}
use Rattle.ih_tables.specs.Sizes.{room_count, shift_count}
use Rattle.ih_tables.specs.Valid.{IsValid}
use Rattle.ih_plan.specs.declared.moves.Placement.{Placement}
use Rattle.ih_plan.specs.Costs.{is_number}
use Rattle.ih_plan.specs.Presence.{day_of}
use Rattle.ih_plan.specs.Timetable.{choice_of}
use Rattle.ih_solution.specs.Solution.{room_id}
use Rattle.ih_carry.specs.declared.losses.Loss.{Loss}
use Rattle.ih_carry.specs.declared.losses.Loss.TheVariants.{Before, Past}
use Rattle.ih_carry.specs.Account.{is_lost}
use Rattle.ih_carry.specs.Handovers.{HandoverData, day_in, handed, kept_nurse, kept_stay, known_nurse, known_stay, lost_stay, nurse_in, nurse_of, placed, room_in}
use Rattle.ih_carry.specs.Ids.{room_no, room_with}
use Rattle.ih_carry.specs.Laws.{IsKept, NothingIsLostUnsaid}
use Rattle.ih_carry.specs.Losses.{◌>>=◌, is_lost_by, loss_number}

-- ---- names and numbers

-- the name of the item that is found is the one that was looked for
named : {A : Type 0} (name : A → List ℕ) (xs : List A) (s : List ℕ) (k : ℕ) → number_in (map name xs) s ≡ Some k
    → option_map_or name (slice_get xs k) [] ≡ s
unfolding number_in
named name [] s k e = absurd (let no : None ≡ Some k = e in cc)
named {A} name (x ∷ xs) s k e = by_case (bytes_eq (name x) s) (number_in (map name xs) s) (bytes_eq-Decides (name x) s) (λ j f. named name xs s j f) e
  where
    by_case : (b : Bool) (o : Option ℕ) → Decides b (name x ≡ s) → ((j : ℕ) → o ≡ Some j → option_map_or name (slice_get xs j) [] ≡ s)
        → (if b then Some 0 else option_map suc o) ≡ Some k → option_map_or name (slice_get (x ∷ xs) k) [] ≡ s
    by_case true o d rest e = let first : 0 ≡ k = cc in subst (λ (i : ℕ). option_map_or name (slice_get (x ∷ xs) i) [] ≡ s) first (d.0 refl)
    by_case false None d rest e = absurd (let no : None ≡ Some k = e in cc)
    by_case false (Some j) d rest e =
        let later : suc j ≡ k = cc in
        subst (λ (i : ℕ). option_map_or name (slice_get (x ∷ xs) i) [] ≡ s) later (rest j refl)

not-found : (b : Bool) {P : Type 0} → Decides b P → (P → ⊥) → b ≡ false
not-found true d denied = absurd (denied (d.0 refl))
not-found false d denied = refl

-- the number of an item's name is the item's
number-at : {A : Type 0} (name : A → List ℕ) (xs : List A) (k : ℕ) (d : A) → AllPairs (λ x y. name x ≢ name y) xs → k < length xs
    → number_in (map name xs) (name (get_or xs k d)) ≡ Some k
unfolding number_in
number-at name [] k d distinct h = absurd (omega arith)
number-at name (x ∷ xs) zero d distinct h = rw ((bytes_eq-Decides (name x) (name x)).1 refl) refl
number-at name (x ∷ xs) (suc k) d distinct h =
    let rest = number-at name xs k d (λ i j e l m. distinct (suc i) (suc j) e (omega arith) (omega arith)) (omega arith) in
    let differ : name x ≢ name (get_or xs k d) = distinct 0 (suc k) d (omega arith) (omega arith) in
    rw (not-found _ (bytes_eq-Decides (name x) (name (get_or xs k d))) differ, rest) refl

number-of : {A : Type 0} (name : A → List ℕ) (xs : List A) (k : ℕ) → AllPairs (λ x y. name x ≢ name y) xs → k < length xs
    → number_in (map name xs) (option_map_or name (slice_get xs k) []) ≡ Some k
number-of name xs k distinct h = elim (slice_get_cases xs k).1 [
  | inl there ↦
      let is : get_or xs k there.0 ≡ there.0 = there.3 in
      rw there.2 (rw is at (number-at name xs k there.0 distinct h))
  | inr past ↦ absurd (omega (arith, past.0, h))
]

-- ---- what is kept in a row

-- where the second is kept, so is the first
kept-first : {A B P : Type 0} (r : Result A Loss) (f : A → Result B Loss) (y : B) → (r >>= f) ≡ Ok y → ((x : A) → r ≡ Ok x → f x ≡ Ok y → P) → P
kept-first (Ok x) f y e so = so x refl e
kept-first (Err why) f y e so = absurd (let no : Err why ≡ Ok y = e in cc)

lost-not-kept : {A : Type 0} (why : Loss) (x : A) → Err why ≡ Ok x → ⊥
lost-not-kept why x e = cc

day-kept : (h : HandoverData) (d : ℕ) (e : Day) → day_in h d ≡ Ok e → (h.days ≤ d) × (d - h.days < h.next.days)
day-kept h d e is = elim (cases_lt d h.days) [
  | inl early ↦ absurd (lost-not-kept Before e (rw (lt-ltb d h.days early) at is))
  | inr after ↦ elim (cases_lt (d - h.days) h.next.days) [
    | inl within ↦ (after, within)
    | inr past ↦ absurd (lost-not-kept Past e (rw (le-ltb d h.days after, le-ltb (d - h.days) h.next.days past) at is))
  ]
]

found-some : {A : Type 0} (o : Option A) (why : Loss) (x : A) → ok_or o why ≡ Ok x → o ≡ Some x
found-some None why x e = absurd (let no : Err why ≡ Ok x = e in cc)
found-some (Some y) why x e = let same : y ≡ x = (let f : Ok y ≡ Ok x = e in cc) in ap Some same

number-some : (o : Option ℕ) (r : RoomNo) → option_map room_no o ≡ Some r → o ≡ Some r.0
number-some None r e = absurd (let no : None ≡ Some r = e in cc)
number-some (Some n) r e = let same : room_no n ≡ r = (let f : Some (room_no n) ≡ Some r = e in cc) in ap (λ (x : RoomNo). Some x.0) same

-- ---- stays

stay-said : (h : HandoverData) (q : ℕ) (at : Placement) → known_stay h q ≡ Some at
    → ((new : Placement) × (kept_stay h q ≡ Some new)) ⊎ ((why : Loss) × (lost_stay h q ≡ Some why))
stay-said h q at known = by_case (placed h at) refl
  where
    by_case : (r : Result Placement Loss) → placed h at ≡ r
        → ((new : Placement) × (kept_stay h q ≡ Some new)) ⊎ ((why : Loss) × (lost_stay h q ≡ Some why))
    by_case (Ok new) e = inl (new, ap (option_and_then (λ (x : Placement). result_ok (placed h x))) known ∙ ap (λ (r : Result Placement Loss). result_ok r) e)
    by_case (Err why) e = inr (why, ap (option_and_then (λ (x : Placement). result_err (placed h x))) known ∙ ap (λ (r : Result Placement Loss). result_err r) e)

-- ---- nurses

module _ (h : HandoverData) (valid : IsValid h.ward) (s k : ℕ) (m : NurseNo) (room : s < room_count h.ward) (shift : k < shift_count h.ward) (has : choice_of h.plan s k ≡ Some m) where
  lost-said : (why : Loss) → handed h s k m.0 ≡ Err why → is_lost h m.0 why s k ≡ true
  lost-said why e =
      ap (λ (o : Option NurseNo). is_number (option_map (λ (n : NurseNo). n.0) o) m.0 && is_lost_by why (handed h s k m.0)) has
      ∙ (ap (λ (r : Result NurseNo Loss). (m.0 == m.0) && is_lost_by why r) e
      ∙ (rw (eq-eqb m.0 m.0 refl, eq-eqb (loss_number why) (loss_number why) refl) refl))

  -- the nurse of the room with the id of this one, in the shift as many days earlier, was this one
  known : (r : RoomNo) → room_with h.next (room_id h.ward s) ≡ Some r → 3 * h.days ≤ k → known_nurse h r.0 (k - 3 * h.days) ≡ Some m
  known r named_so late =
      let name = λ (a : Room). a.id in
      let same : room_id h.next r.0 ≡ room_id h.ward s =
      named name h.next.rooms (room_id h.ward s) r.0 (number-some _ r named_so) in
      let back : room_with h.ward (room_id h.next r.0) ≡ Some (room_no s) =
      ap (λ (id : List ℕ). room_with h.ward id) same
      ∙ ap (option_map room_no) (number-of name h.ward.rooms s valid.rooms.distinct room) in
      let time : (k - 3 * h.days) + 3 * h.days ≡ k = omega arith in
      ap (option_and_then (λ (x : RoomNo). nurse_of h x.0 ((k - 3 * h.days) + 3 * h.days))) back
      ∙ (ap (nurse_of h s) time ∙ (rw (lt-ltb k (shift_count h.ward) shift) has))

  kept-said : (n : NurseNo) → handed h s k m.0 ≡ Ok n → IsKept h s k n
  unfolding handed kept_nurse
  kept-said n e =
      kept-first (day_in h (day_of k)) (λ day. room_in h s >>= λ there. nurse_in h (k - 3 * h.days) m.0) n e (λ day day_is rest.
      kept-first (room_in h s) (λ there. nurse_in h (k - 3 * h.days) m.0) n rest (λ there room_is nurse_is.
      let days = day-kept h (day_of k) day day_is in
      let late : 3 * h.days ≤ k = omega (arith, days.0) in
      let named_so = found-some _ _ there room_is in
      record {
        room = there.0;
        named = named_so;
        later = omega arith;
        within = omega (arith, days.1);
        kept = ap (option_and_then (λ (x : NurseNo). result_ok (nurse_in h (k - 3 * h.days) x.0))) (known there named_so late)
            ∙ ap (λ (r : Result NurseNo Loss). result_ok r) nurse_is;
      }))

  nurse-said : ((n : NurseNo) × IsKept h s k n) ⊎ ((why : Loss) × (is_lost h m.0 why s k ≡ true))
  nurse-said = by_case (handed h s k m.0) refl
    where
      by_case : (r : Result NurseNo Loss) → handed h s k m.0 ≡ r → ((n : NurseNo) × IsKept h s k n) ⊎ ((why : Loss) × (is_lost h m.0 why s k ≡ true))
      by_case (Ok n) e = inl (n, kept-said n e)
      by_case (Err why) e = inr (why, lost-said why e)

pub all-said : (h : HandoverData) → IsValid h.ward → NothingIsLostUnsaid h
all-said h valid = record {
  stays = stay-said h;
  nurses = λ s k m room shift has. nurse-said h valid s k m room shift has;
}
