-- Sums over the persons of a room's list, and the loads after a choice of nurse.
use Rattle.std.proofs.Common.{◌≡◌, ℕ, ◌+◌, ◌/◌, ◌<◌, ◌≤◌, refl, arith, sym, ap, ◌∙◌, inl, inr, List, length, Option, None}
use Rattle.std.specs.Prelude.{if◌then◌else◌, sum_by, option_map, slice_index_or}
use Rattle.std.proofs.lemmas.Bool.{cases_eq, eq-eqb, ne_eqb}
use Rattle.ih_tables.specs.declared.drafts.Draft.{Draft}
use Rattle.ih_tables.specs.declared.ids.RoomNo.{RoomNo}
use Rattle.ih_tables.specs.declared.ids.Shift.{Shift}
use Rattle.ih_tables.specs.declared.ids.NurseNo.{NurseNo}
use Rattle.ih_tables.specs.Sizes.{person_count, room_count, nurse_count, shift_count}
use Rattle.ih_links.specs.Lists.{LinksState, list_of, has, AreNodes}
use Rattle.ih_links.specs.Days.{on_day}
use Rattle.ih_plan.specs.declared.moves.Write.TheVariants.{SetCare}
use Rattle.ih_plan.specs.Timetable.{Timetable, IsPlanOf, choice_of}
use Rattle.ih_plan.specs.Writes.{put}
use Rattle.ih_plan.specs.Presence.{is_present, present, day_of}
use Rattle.ih_plan.specs.Costs.{is_number}
use Rattle.ih_plan.proofs.SumLemmas.{sum_below-same, sum_by-which_below}
use Rattle.ih_plan.proofs.Loads.{room_load, load-moves, load-kept}
use Rattle.ih_nurses.specs.Here.{AreHere}
use Rattle.ih_nurses.specs.declared.loads.NurseLoad.{NurseLoad}
use Rattle.ih_nurses.specs.Loads.{IsTable, AreLoads, load_at, share}
use Rattle.ih_nurses.proofs.HereLemmas.{read-here}
use Rattle.ih_nurses.proofs.WalkLemmas.{sum-listed}
use Rattle.ih_nurses.proofs.CareLemmas.{present-kept}

-- a sum over a room's list is one over the persons present
pub sum-present : (I : Draft) (P : Timetable) (here : List LinksState) (r d : ℕ) (f : ℕ → ℕ) → AreHere I P here → r < room_count I → d < I.days
    → AreNodes (person_count I) (list_of (on_day here d) r) → sum_by f (list_of (on_day here d) r) ≡ sum_by f (present I P r d)
unfolding present
sum-present I P here r d f known rh dh nodes =
    sum-listed (person_count I) f (list_of (on_day here d) r) nodes
    ∙ (sum_below-same (person_count I) (λ x. if has x (list_of (on_day here d) r) then f x else 0) (λ x. if is_present I P r d x then f x else 0)
    (λ x xh. ap (λ b. if b then f x else 0) (known.each r d x rh dh xh))
    ∙ sym (sum_by-which_below f (person_count I) (is_present I P r d)))

share-now : (n : Option NurseNo) (k load m : ℕ) → share n k load m k ≡ (if is_number (option_map (λ (a : NurseNo). a.0) n) m then load else 0)
share-now n k load m = rw (eq-eqb k k refl) refl

share-then : (n : Option NurseNo) (k load m j : ℕ) → (j ≡ k → ⊥) → share n k load m j ≡ 0
share-then n k load m j ne = rw (ne_eqb j k ne) refl

module _ (I : Draft) (P : Timetable) (r : RoomNo) (k : Shift) (n prev : Option NurseNo) (plan : IsPlanOf I P) (room : r.0 < room_count I) (shift : k.0 < shift_count I)
    (prev_is : prev ≡ choice_of P r.0 k.0) (load : ℕ) (load_is : load ≡ room_load I P k.0 r.0) (old : List NurseLoad) (known : AreLoads I P old) where
  pub loads-moved : (new : List NurseLoad) → IsTable I new
      → ((m j : ℕ) → m < nurse_count I → j < shift_count I → load_at I new m j + share prev k.0 load m j ≡ load_at I old m j + share n k.0 load m j)
      → AreLoads I (put (SetCare r k n) P) new
  loads-moved new table each = record {
    table = table;
    each = λ m j mh jh. elim (cases_eq j k.0) [
      | inl now ↦
          let step = rw now at (each m j mh jh) in
          let before = known.each m k.0 mh shift in
          let moves = rw (← load_is, ← prev_is) at (load-moves I P r k n plan room shift m) in
          let s = share-now prev k.0 load m in
          let t = share-now n k.0 load m in
          rw now (omega (arith, step, before, moves, s, t))
      | inr later ↦
          let step = each m j mh jh in
          let before = known.each m j mh jh in
          let kept = load-kept I P r k n plan room shift m j jh later in
          let s = share-then prev k.0 load m j later in
          let t = share-then n k.0 load m j later in
          omega (arith, step, before, kept, s, t)
    ];
  }

pub here-kept : (I : Draft) (P : Timetable) (r : RoomNo) (k : Shift) (n : Option NurseNo) (here : List LinksState) → AreHere I P here → AreHere I (put (SetCare r k n) P) here
here-kept I P r k n here known = record {
  sized = known.sized;
  each = λ s d x sh dh xh. known.each s d x sh dh xh ∙ sym (present-kept I P r k n s d x);
}

-- the same of the list as a call reads it
pub sum-in_list : (I : Draft) (P : Timetable) (here : List LinksState) (day : LinksState) (r k : ℕ) (f : ℕ → ℕ) → AreHere I P here → r < room_count I → k < shift_count I
    → day ≡ slice_index_or here (day_of k) day → AreNodes (person_count I) (list_of day r) → sum_by f (list_of day r) ≡ sum_by f (present I P r (day_of k))
sum-in_list I P here day r k f known rh kh day_is nodes =
    let days = known.sized.days in
    let inside : k / 3 < length here = omega arith in
    let on : k / 3 < I.days = omega arith in
    let read : on_day here (day_of k) ≡ day = read-here here (k / 3) day day day inside day_is in
    let listed : AreNodes (person_count I) (list_of (on_day here (day_of k)) r) = rw read nodes in
    ap (λ (l : LinksState). sum_by f (list_of l r)) (sym read) ∙ sum-present I P here r (day_of k) f known rh on listed

-- the list of a room as a call reads it has who is present
pub list-there : (I : Draft) (P : Timetable) (here : List LinksState) (day : LinksState) (r k : ℕ) → AreHere I P here → r < room_count I → k < shift_count I
    → day ≡ slice_index_or here (day_of k) day → (x : ℕ) → x < person_count I → has x (list_of day r) ≡ is_present I P r (day_of k) x
list-there I P here day r k known rh kh day_is x xh =
    let days = known.sized.days in
    let inside : k / 3 < length here = omega arith in
    let on : k / 3 < I.days = omega arith in
    let read : on_day here (day_of k) ≡ day = read-here here (k / 3) day day day inside day_is in
    ap (λ (l : LinksState). has x (list_of l r)) (sym read) ∙ known.each r (day_of k) x rh on xh

-- the old nurse has the room's load
pub load-enough : (I : Draft) (P : Timetable) (r : RoomNo) (k : Shift) (prev : Option NurseNo) (load : ℕ) (old : List NurseLoad) → IsPlanOf I P → r.0 < room_count I → k.0 < shift_count I
    → prev ≡ choice_of P r.0 k.0 → load ≡ room_load I P k.0 r.0 → AreLoads I P old → (m : ℕ) → m < nurse_count I → share prev k.0 load m k.0 ≤ load_at I old m k.0
load-enough I P r k prev load old plan room shift prev_is load_is known m mh =
    let before = known.each m k.0 mh shift in
    let moves = rw (← load_is, ← prev_is) at (load-moves I P r k None plan room shift m) in
    let s = share-now prev k.0 load m in
    omega (arith, before, moves, s)
