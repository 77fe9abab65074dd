-- A person leaves the rooms that it is in, day by day.
use Rattle.std.proofs.Common.{◌≡◌, ℕ, ◌+◌, ◌<◌, ◌≤◌, refl, arith, sym, ap, ◌∙◌, Bool, true, false, [], length, map, inl, inr}
use Rattle.std.specs.Prelude.{◌&&◌, ◌||◌, ◌==◌, not, slice_index_or}
use Rattle.std.proofs.lemmas.Bool.{cases_eq, eq-eqb, ne_eqb}
use Rattle.std.proofs.lemmas.List.{length-map}
use Rattle.std.proofs.Math.ListN.{get_or-map}
use Rattle.ih_links.specs.Lists.{LinksState, has, list_of, without}
use Rattle.ih_links.specs.Days.{on_day}
use Rattle.ih_links.proofs.Members.{apart, has-without_self, has-without_other, length-without, once-without, without-none}
use Rattle.ih_roomdays.specs.declared.room_lists.RoomLists.{RoomLists}
use Rattle.ih_roomdays.specs.Profiles.{most_persons}
use Rattle.ih_roomdays.specs.RoomLists.{AreRoomLists, IsLeft, persons_at, is_at}
use Rattle.std.proofs.Math.Bool.{and-true, and-false}
use Rattle.ih_plan.proofs.Spans.{span-past, span-more}
use Rattle.ih_roomdays.proofs.People.{persons-few}
use Rattle.ih_roomdays.proofs.Replacements.{IsDay, IsReplaced, everywhere, replaced-then}
use Rattle.ih_plan.specs.Presence.{in_span}

-- Person x is taken out of the room's list of day k; it is in no other.
module _ (v : RoomLists) (rows : AreRoomLists v) (room x k : ℕ) (k_below : k < v.days) (there : (r : ℕ) → is_at v r k x ≡ (room == r))
    (old day : LinksState) (old_is : old ≡ on_day v.links.items k) (lists_are : day.lists ≡ map (without x) old.lists) (nodes_are : day.nodes ≡ old.nodes) where
  lists-now : day.lists ≡ map (without x) (on_day v.links.items k).lists
  lists-now = rw old_is at lists_are

  all-left : (r : ℕ) → list_of day r ≡ without x (persons_at v r k)
  all-left r = ap (λ ls. slice_index_or ls r []) lists-now ∙ get_or-map (without x) (on_day v.links.items k).lists r []

  pub shorter-day : IsDay v room k (without x (persons_at v room k)) day
  shorter-day = record {
    heads = ap length lists-now ∙ (length-map (on_day v.links.items k).lists (without x) ∙ rows.each_room k k_below);
    numbers = nodes_are ∙ (ap (λ (l : LinksState). l.nodes) old_is ∙ rows.numbers k k_below);
    here = all-left room;
    others = λ r ne. all-left r ∙ without-none x (persons_at v r k) (there r ∙ ne_eqb room r (λ e. ne (sym e)));
    once = once-without x (persons_at v room k) (rows.once room k k_below);
    known = λ y left.
        let ne = apart y x (without x (persons_at v room k)) left (has-without_self x (persons_at v room k)) in
        rows.known room k y k_below (sym (has-without_other y x (persons_at v room k) ne) ∙ left);
  }

  -- the list has no more persons than there are
  pub few-left : length (list_of day room) ≤ most_persons
  few-left = rw (all-left room) (
      let less = length-without x (persons_at v room k) (rows.once room k k_below) (there room ∙ eq-eqb room room refl) in
      let few = persons-few v room k rows k_below in
      omega arith)

-- So the person is away one day longer.
module _ (v new : RoomLists) (room x k : ℕ) (there : (r : ℕ) → is_at v r k x ≡ (room == r)) (shorter : IsReplaced v new room k (without x (persons_at v room k))) where
  each-after : (r d y : ℕ) → d < v.days → is_at new r d y ≡ (is_at v r d y && not ((y == x) && (k == d)))
  each-after r d y = everywhere room k v.days (λ s e. is_at new s e y ≡ (is_at v s e y && not ((y == x) && (k == e))))
      (ap (has y) shorter.here ∙ elim (cases_eq y x) [
        | inl own ↦ rw (own, eq-eqb x x refl, eq-eqb k k refl) (has-without_self x (persons_at v room k) ∙ sym (and-false (is_at v room k x)))
        | inr other ↦ rw (ne_eqb y x other) (has-without_other y x (persons_at v room k) other ∙ sym (and-true (is_at v room k y)))
      ])
      (λ s e below ne. ap (has y) (shorter.others s e ne) ∙ sym (kept s e ne)) r d
    where
      -- x isn't in another room on the day
      kept : (s e : ℕ) → (s ≡ room → e ≡ k → ⊥) → (is_at v s e y && not ((y == x) && (k == e))) ≡ is_at v s e y
      kept s e ne = elim (cases_eq e k) [
        | inl today ↦ elim (cases_eq y x) [
          | inl own ↦ rw (today, own, there s, ne_eqb room s (λ f. ne (sym f) today)) refl
          | inr other ↦ rw (ne_eqb y x other) (and-true (is_at v s e y))
        ]
        | inr apart ↦ rw (ne_eqb k e (λ f. apart (sym f)), and-false (y == x)) (and-true (is_at v s e y))
      ]

  pub left-more : (old : RoomLists) (a : ℕ) → a ≤ k → IsLeft old v x a k → IsLeft old new x a (k + 1)
  left-more old a order so_far =
      replaced-then (λ r d y was. was && not ((y == x) && (k == d))) so_far shorter each-after
      (λ r d y was. shrunk was (y == x) (in_span a k d) (k == d) ∙ sym (ap (λ b. was && not ((y == x) && b)) (span-more a k d order)))
    where
      shrunk : (f q s e : Bool) → ((f && not (q && s)) && not (q && e)) ≡ (f && not (q && (s || e)))
      shrunk false q s e = refl
      shrunk true false s e = refl
      shrunk true true true e = refl
      shrunk true true false e = refl

-- on a day to come the person is still where it was
pub there-yet : (old v : RoomLists) (room x a k : ℕ) → IsLeft old v x a k → k < old.days → ((r : ℕ) → is_at old r k x ≡ (room == r)) → (r : ℕ) → is_at v r k x ≡ (room == r)
there-yet old v room x a k so_far below there r =
    so_far.each r k x below ∙ (ap (λ b. is_at old r k x && not ((x == x) && b)) (span-past a k) ∙ (rw (and-false (x == x)) (and-true (is_at old r k x)) ∙ there r))

-- so it is in a list of the day
pub linked : (v : RoomLists) (room x k : ℕ) → ((r : ℕ) → is_at v r k x ≡ (room == r)) → (old : LinksState) → old ≡ on_day v.links.items k → (r : ℕ) × (has x (list_of old r) ≡ true)
linked v room x k there old old_is = (room, ap (λ (l : LinksState). has x (list_of l room)) old_is ∙ (there room ∙ eq-eqb room room refl))
