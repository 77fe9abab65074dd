-- What entering and leaving make of the lists of persons.
use Rattle.std.proofs.Common.{◌≡◌, ℕ, ◌+◌, ◌<◌, ◌≤◌, refl, arith, sym, ap, ◌∙◌, Bool, true, false, inl, inr, List, [], ◌∷◌, ◌++◌, length}
use Rattle.std.specs.Prelude.{◌||◌, ◌&&◌, ◌==◌, not, map, slice_index_or, slice_set}
use Rattle.std.proofs.lemmas.Bool.{cases_eq, cases_lt, eq-eqb, ne_eqb, and_right}
use Rattle.std.proofs.lemmas.List.{get_or-set_other, get_or_default, get_or_past}
use Rattle.std.proofs.lemmas.Grind.{get_or-set_at}
use Rattle.std.proofs.Math.ListN.{get_or-map}
use Rattle.ih_tables.specs.declared.drafts.Draft.{Draft}
use Rattle.ih_tables.specs.Sizes.{room_count}
use Rattle.ih_links.specs.Lists.{LinksState, list_of, has, without}
use Rattle.ih_links.specs.Days.{on_day}
use Rattle.ih_links.proofs.Members.{has-append, has-without_self, has-without_other}
use Rattle.ih_links.proofs.Ties.{or-false}
use Rattle.ih_plan.specs.Presence.{in_span}
use Rattle.ih_nurses.specs.Here.{is_here, AreSized}

abbrev no_lists : LinksState
no_lists = record { lists = []; nodes = 0 }

pub and-all : (b c : Bool) → c ≡ true → (b && c) ≡ b
and-all true c e = e
and-all false c e = refl

-- a room that isn't there has nobody
past-lists : (day : LinksState) (s x : ℕ) → length day.lists ≤ s → has x (list_of day s) ≡ false
past-lists day s x h = rw (get_or_past day.lists s [] h) refl

-- one day is written
module _ (here : List LinksState) (d : ℕ) (past old new : LinksState) (inside : d < length here) (old_is : old ≡ slice_index_or here d past) where
  written-here : (e : ℕ) → e ≡ d → on_day (slice_set here d new) e ≡ new
  written-here e same = get_or-set_at here d e new no_lists same inside

  written-there : (e : ℕ) → (e ≡ d → ⊥) → on_day (slice_set here d new) e ≡ on_day here e
  written-there e other = get_or-set_other here d e new no_lists other

  pub read-here : on_day here d ≡ old
  read-here = get_or_default here d no_lists past inside ∙ sym old_is

  pub free-lists : (I : Draft) (x : ℕ) → AreSized I here → d < I.days → ((s : ℕ) → s < room_count I → is_here here s d x ≡ false) → (s : ℕ) → has x (list_of old s) ≡ false
  free-lists I x sized day free s = elim (cases_lt s (room_count I)) [
    | inl below ↦ ap (λ (l : LinksState). has x (list_of l s)) (sym read-here) ∙ free s below
    | inr past ↦ past-lists old s x (let n = sized.rooms d day in let m = ap (λ (l : LinksState). length l.lists) read-here in omega (arith, n, m))
  ]

  module _ (r x : ℕ) (room : r < length old.lists) (lists : new.lists ≡ slice_set old.lists r (list_of old r ++ x ∷ [])) where
    pushed-here : (s y : ℕ) → has y (list_of new s) ≡ (has y (list_of old s) || ((r == s) && (x == y)))
    pushed-here s y = elim (cases_eq s r) [
      | inl same ↦
          rw (lists, get_or-set_at old.lists r s (list_of old r ++ x ∷ []) [] same room, has-append y (list_of old r) x, same, eq-eqb r r refl) refl
      | inr other ↦
          rw (lists, get_or-set_other old.lists r s (list_of old r ++ x ∷ []) [] other, ne_eqb r s (λ e. other (sym e)))
          (sym (or-false (has y (list_of old s)) false refl))
    ]

    pub entered : (s e y : ℕ) → is_here (slice_set here d new) s e y ≡ (is_here here s e y || ((r == s) && ((d == e) && (x == y))))
    entered s e y = elim (cases_eq e d) [
      | inl same ↦ rw (written-here e same, same, read-here, eq-eqb d d refl) (pushed-here s y)
      | inr other ↦
          rw (written-there e other, ne_eqb d e (λ f. other (sym f)))
          (sym (or-false (is_here here s e y) ((r == s) && false) (and_right (r == s) false refl)))
    ]

  module _ (x : ℕ) (lists : new.lists ≡ map (without x) old.lists) where
    taken-here : (s y : ℕ) → has y (list_of new s) ≡ (has y (list_of old s) && not (x == y))
    taken-here s y = elim (cases_eq y x) [
      | inl same ↦
          rw (lists, get_or-map (without x) old.lists s [], same, has-without_self x (list_of old s), eq-eqb x x refl)
          (sym (and_right (has x (list_of old s)) false refl))
      | inr other ↦
          rw (lists, get_or-map (without x) old.lists s [], has-without_other y x (list_of old s) other, ne_eqb x y (λ e. other (sym e)))
          (sym (and-all (has y (list_of old s)) true refl))
    ]

    pub left : (s e y : ℕ) → is_here (slice_set here d new) s e y ≡ (is_here here s e y && not ((d == e) && (x == y)))
    left s e y = elim (cases_eq e d) [
      | inl same ↦ rw (written-here e same, same, read-here, eq-eqb d d refl) (taken-here s y)
      | inr other ↦
          rw (written-there e other, ne_eqb d e (λ f. other (sym f)))
          (sym (and-all (is_here here s e y) true refl))
    ]

-- ---- days in a row

-- entered on the days so far
pub record AreEntered (I : Draft) (old here : List LinksState) (r from to x : ℕ) : Type 0 where
  pub sized : AreSized I here
  pub each : (s e y : ℕ) → is_here here s e y ≡ (is_here old s e y || ((r == s) && (in_span from to e && (x == y))))

-- left on the days so far
pub record AreLeft (I : Draft) (old here : List LinksState) (from to x : ℕ) : Type 0 where
  pub sized : AreSized I here
  pub each : (s e y : ℕ) → is_here here s e y ≡ (is_here old s e y && not (in_span from to e && (x == y)))
