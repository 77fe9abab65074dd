-- A person comes into a room, day by day.
use Rattle.std.proofs.Common.{◌≡◌, ℕ, ◌+◌, ◌<◌, ◌≤◌, refl, sym, ap, ◌∙◌, Bool, true, false, List, [], ◌∷◌, ◌++◌, length, inl, inr}
use Rattle.std.specs.Prelude.{◌||◌, ◌&&◌, ◌==◌, slice_index_or, slice_set}
use Rattle.std.proofs.lemmas.Bool.{cases_eq, eq-eqb, ne_eqb, eqb-true, or_cases}
use Rattle.std.proofs.lemmas.List.{get_or-set_same, get_or-set_other, length-set}
use Rattle.ih_links.specs.Lists.{LinksState, has, list_of}
use Rattle.ih_links.specs.Days.{on_day}
use Rattle.ih_links.proofs.Members.{has-append, once-append}
use Rattle.ih_roomdays.specs.declared.room_lists.RoomLists.{RoomLists}
use Rattle.ih_roomdays.specs.RoomLists.{AreRoomLists, IsEntered, persons_at, is_at}
use Rattle.std.proofs.Math.Bool.{or-false, and-false}
use Rattle.ih_plan.proofs.Spans.{span-past, span-more}
use Rattle.ih_roomdays.proofs.Replacements.{IsDay, IsReplaced, everywhere, replaced-then}
use Rattle.ih_plan.specs.Presence.{in_span}
use Rattle.ih_plan.proofs.TestLemmas.{equal-swap}

-- Person x is put behind the last of room's list of day k.
module _ (v : RoomLists) (rows : AreRoomLists v) (room x k : ℕ) (room_below : room < v.rooms) (k_below : k < v.days) (x_below : x < v.persons) (nowhere : (r : ℕ) → is_at v r k x ≡ false)
    (old day : LinksState) (old_is : old ≡ on_day v.links.items k) where
  pub free : (r : ℕ) → has x (list_of old r) ≡ false
  free r = ap (λ (l : LinksState). has x (list_of l r)) old_is ∙ nowhere r

  abbrev longer : List ℕ
  longer = persons_at v room k ++ x ∷ []

  module _ (lists_are : day.lists ≡ slice_set old.lists room (list_of old room ++ x ∷ [])) (nodes_are : day.nodes ≡ old.nodes) where
    lists-now : day.lists ≡ slice_set (on_day v.links.items k).lists room longer
    lists-now = rw old_is at lists_are

    pub longer-day : IsDay v room k longer day
    longer-day = record {
      heads = ap length lists-now ∙ (length-set (on_day v.links.items k).lists room longer ∙ rows.each_room k k_below);
      numbers = nodes_are ∙ (ap (λ (l : LinksState). l.nodes) old_is ∙ rows.numbers k k_below);
      here = ap (λ ls. slice_index_or ls room []) lists-now ∙ get_or-set_same (on_day v.links.items k).lists room longer [] (rw (rows.each_room k k_below) room_below);
      others = λ r ne. ap (λ ls. slice_index_or ls r []) lists-now ∙ get_or-set_other (on_day v.links.items k).lists room r longer [] ne;
      once = once-append (persons_at v room k) x (rows.once room k k_below) (nowhere room);
      known = λ y there. elim (or_cases (is_at v room k y) (x == y) (sym (has-append y (persons_at v room k) x) ∙ there)) [
        | inl before ↦ rows.known room k y k_below before
        | inr now ↦ rw (← eqb-true x y now) x_below
      ];
    }

-- So the person is there one day longer.
module _ (v new : RoomLists) (room x k : ℕ) (longer : IsReplaced v new room k (persons_at v room k ++ x ∷ [])) where
  each-after : (r d y : ℕ) → d < v.days → is_at new r d y ≡ (is_at v r d y || ((room == r) && ((y == x) && (k == d))))
  each-after r d y = everywhere room k v.days (λ s e. is_at new s e y ≡ (is_at v s e y || ((room == s) && ((y == x) && (k == e)))))
      (ap (has y) longer.here ∙ (has-append y (persons_at v room k) x
      ∙ ap (λ b. is_at v room k y || b) (equal-swap x y ∙ rw (eq-eqb room room refl, eq-eqb k k refl) (sym (all-true (y == x))))))
      (λ s e below ne. ap (has y) (longer.others s e ne) ∙ sym (ap (λ b. is_at v s e y || b) (apart s e ne) ∙ or-false (is_at v s e y))) r d
    where
      all-true : (b : Bool) → (true && (b && true)) ≡ b
      all-true true = refl
      all-true false = refl

      apart : (s e : ℕ) → (s ≡ room → e ≡ k → ⊥) → ((room == s) && ((y == x) && (k == e))) ≡ false
      apart s e ne = elim (cases_eq s room) [
        | inl same ↦ rw (ne_eqb k e (λ f. ne same (sym f)), and-false (y == x)) (and-false (room == s))
        | inr other ↦ rw (ne_eqb room s (λ f. other (sym f))) refl
      ]

  pub entered-more : (old : RoomLists) (a : ℕ) → a ≤ k → IsEntered old v room x a k → IsEntered old new room x a (k + 1)
  entered-more old a order so_far =
      replaced-then (λ r d y was. was || ((room == r) && ((y == x) && (k == d)))) so_far longer each-after
      (λ r d y was. grown was (room == r) (y == x) (in_span a k d) (k == d) ∙ sym (ap (λ b. was || ((room == r) && ((y == x) && b))) (span-more a k d order)))
    where
      grown : (f p q s e : Bool) → ((f || (p && (q && s))) || (p && (q && e))) ≡ (f || (p && (q && (s || e))))
      grown true p q s e = refl
      grown false false q s e = refl
      grown false true false s e = refl
      grown false true true s e = refl

-- a person who was nowhere is still nowhere on the days to come
pub nowhere-yet : (old v : RoomLists) (room x a k : ℕ) → IsEntered old v room x a k → k < old.days → ((r d : ℕ) → d < old.days → is_at old r d x ≡ false) → (r : ℕ) → is_at v r k x ≡ false
nowhere-yet old v room x a k so_far below nowhere r =
    so_far.each r k x below ∙ rw (nowhere r k below, span-past a k, and-false (x == x), and-false (room == r)) refl
