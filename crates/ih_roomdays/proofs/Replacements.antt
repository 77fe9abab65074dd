-- The list of one room and one day is replaced, and what is kept beside it.
use Rattle.std.proofs.Common.{◌≡◌, ℕ, ◌+◌, ◌*◌, ◌<◌, refl, sym, ap, subst, ◌∙◌, Bool, true, List, [], length, inl, inr}
use Rattle.std.specs.Prelude.{slice_index_or, slice_set}
use Rattle.std.specs.Global.{Vec}
use Rattle.std.proofs.lemmas.Bool.{cases_eq}
use Rattle.std.proofs.lemmas.List.{get_or-set_same, get_or-set_other, length-set}
use Rattle.std.proofs.lemmas.Nat.{same_from_place}
use Rattle.ih_links.specs.Lists.{LinksState, has, list_of, IsOnce}
use Rattle.ih_links.specs.Days.{on_day}
use Rattle.ih_roomdays.specs.declared.occupancies.Crowd.{Crowd}
use Rattle.ih_roomdays.specs.declared.room_lists.RoomLists.{RoomLists}
use Rattle.ih_roomdays.specs.Occupancy.{IsCrowd, nobody}
use Rattle.ih_roomdays.specs.RoomLists.{AreRoomLists, AreChanged, persons_at, crowd_at, is_at}
use Rattle.ih_roomdays.proofs.People.{place-inside}

-- A day's lists that differ from those before in the room's list alone: that is xs, whose persons are known, each once.
pub record IsDay (v : RoomLists) (room k : ℕ) (xs : List ℕ) (day : LinksState) : Type 0 where
  pub heads : length day.lists ≡ v.rooms
  pub numbers : day.nodes ≡ v.persons
  pub here : list_of day room ≡ xs
  pub others : (r : ℕ) → (r ≡ room → ⊥) → list_of day r ≡ persons_at v r k
  pub once : IsOnce xs
  pub known : (x : ℕ) → has x xs ≡ true → x < v.persons

-- Afterwards the room's list of day k is xs, and all others are as before.
pub record IsReplaced (before after : RoomLists) (room k : ℕ) (xs : List ℕ) : Type 0 where
  pub rows : AreRoomLists after
  pub rooms : after.rooms ≡ before.rooms
  pub days : after.days ≡ before.days
  pub persons : after.persons ≡ before.persons
  pub profiles : after.profiles ≡ before.profiles
  pub here : persons_at after room k ≡ xs
  pub others : (r d : ℕ) → (r ≡ room → d ≡ k → ⊥) → persons_at after r d ≡ persons_at before r d

-- a change, and then the lists of one day
pub replaced-then : {old v new : RoomLists} {room k : ℕ} {xs : List ℕ} {f h : ℕ → ℕ → ℕ → Bool → Bool} (g : ℕ → ℕ → ℕ → Bool → Bool) → AreChanged old v f → IsReplaced v new room k xs
    → ((r d y : ℕ) → d < v.days → is_at new r d y ≡ g r d y (is_at v r d y)) → ((r d y : ℕ) (was : Bool) → g r d y (f r d y was) ≡ h r d y was) → AreChanged old new h
replaced-then {old} g so_far step each both = record {
  rows = step.rows;
  rooms = step.rooms ∙ so_far.rooms;
  days = step.days ∙ so_far.days;
  persons = step.persons ∙ so_far.persons;
  profiles = step.profiles ∙ so_far.profiles;
  each = λ r d y below. each r d y (rw so_far.days below) ∙ (ap (g r d y) (so_far.each r d y below) ∙ both r d y (is_at old r d y));
}

-- what holds of the room's day and of each other one
pub everywhere : (room k days : ℕ) (A : ℕ → ℕ → Type 0) → A room k → ((r d : ℕ) → d < days → (r ≡ room → d ≡ k → ⊥) → A r d) → (r d : ℕ) → d < days → A r d
everywhere room k days A this others r d below = elim (cases_eq r room) [
  | inl er ↦ elim (cases_eq d k) [
    | inl ed ↦ subst (λ s. A s d) (sym er) (subst (λ e. A room e) (sym ed) this)
    | inr nd ↦ others r d below (λ e f. nd f)
  ]
  | inr nr ↦ others r d below (λ e f. nr e)
]

-- These are the lists of day k now, and this is the summary of xs.
module _ (v : RoomLists) (rows : AreRoomLists v) (room k : ℕ) (room_below : room < v.rooms) (k_below : k < v.days) (xs : List ℕ) (day : LinksState) (is_day : IsDay v room k xs day)
    (links : Vec LinksState) (links_are : links.items ≡ slice_set v.links.items k day)
    (crowds : Vec Crowd) (crowd : Crowd) (told : IsCrowd v.profiles xs crowd) (crowds_are : crowds.items ≡ slice_set v.crowds.items (room * v.days + k) crowd) where
  abbrev after : RoomLists
  after = record v { links = links; crowds = crowds }

  today : on_day after.links.items k ≡ day
  today = ap (λ ls. on_day ls k) links_are ∙ get_or-set_same v.links.items k day (record { lists = []; nodes = 0 }) (rw rows.each_day k_below)

  other-day : (d : ℕ) → (d ≡ k → ⊥) → on_day after.links.items d ≡ on_day v.links.items d
  other-day d ne = ap (λ ls. on_day ls d) links_are ∙ get_or-set_other v.links.items k d day (record { lists = []; nodes = 0 }) ne

  every-day : (A : LinksState → Type 0) → A day → ((d : ℕ) → d < v.days → A (on_day v.links.items d)) → (d : ℕ) → d < v.days → A (on_day after.links.items d)
  every-day A this others d below = elim (cases_eq d k) [
    | inl same ↦ subst (λ e. A (on_day after.links.items e)) (sym same) (subst A (sym today) this)
    | inr other ↦ subst A (sym (other-day d other)) (others d below)
  ]

  here : persons_at after room k ≡ xs
  here = ap (λ (l : LinksState). list_of l room) today ∙ is_day.here

  elsewhere : (r d : ℕ) → (r ≡ room → d ≡ k → ⊥) → persons_at after r d ≡ persons_at v r d
  elsewhere r d ne = elim (cases_eq d k) [
    | inl same ↦ subst (λ e. persons_at after r e ≡ persons_at v r e) (sym same) (ap (λ (l : LinksState). list_of l r) today ∙ is_day.others r (λ e. ne e same))
    | inr other ↦ ap (λ (l : LinksState). list_of l r) (other-day d other)
  ]

  crowd-here : crowd_at after room k ≡ crowd
  crowd-here = ap (λ cs. slice_index_or cs (room * v.days + k) nobody) crowds_are
      ∙ get_or-set_same v.crowds.items (room * v.days + k) crowd nobody (rw rows.crowds (place-inside v room k room_below k_below))

  crowd-elsewhere : (r d : ℕ) → d < v.days → (r ≡ room → d ≡ k → ⊥) → crowd_at after r d ≡ crowd_at v r d
  crowd-elsewhere r d below ne = ap (λ cs. slice_index_or cs (r * v.days + d) nobody) crowds_are
      ∙ get_or-set_other v.crowds.items (room * v.days + k) (r * v.days + d) crowd nobody (λ e. let same = same_from_place r d room k v.days below k_below e in ne same.0 same.1)

  rows-after : AreRoomLists after
  rows-after = record {
    each_day = ap length links_are ∙ (length-set v.links.items k day ∙ rows.each_day);
    each_room = every-day (λ l. length l.lists ≡ v.rooms) is_day.heads rows.each_room;
    numbers = every-day (λ l. l.nodes ≡ v.persons) is_day.numbers rows.numbers;
    few_places = rows.few_places;
    few_persons = rows.few_persons;
    profiles = rows.profiles;
    once = everywhere room k v.days (λ s e. IsOnce (persons_at after s e))
        (rw here is_day.once)
        (λ s e below ne. rw (elsewhere s e ne) (rows.once s e below));
    known = λ r d x below. everywhere room k v.days (λ s e. has x (persons_at after s e) ≡ true → x < v.persons)
        (λ there. is_day.known x (sym (ap (has x) here) ∙ there))
        (λ s e within ne there. rows.known s e x within (sym (ap (has x) (elsewhere s e ne)) ∙ there)) r d below;
    crowds = ap length crowds_are ∙ (length-set v.crowds.items (room * v.days + k) crowd ∙ rows.crowds);
    kept = everywhere room k v.days (λ s e. IsCrowd v.profiles (persons_at after s e) (crowd_at after s e))
        (rw (here, crowd-here) told)
        (λ s e below ne. rw (elsewhere s e ne, crowd-elsewhere s e below ne) (rows.kept s e below));
  }

  pub replaced : IsReplaced v after room k xs
  replaced = record { rows = rows-after; rooms = refl; days = refl; persons = refl; profiles = refl; here = here; others = elsewhere }
