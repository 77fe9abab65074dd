-- The walk that makes the counts those of another choice of nurse, person by person.
use Rattle.std.proofs.Common.{◌≡◌, ℕ, ◌+◌, ◌*◌, ◌<◌, ◌≤◌, refl, arith, sym, ap, subst, ◌∙◌, true, false, inl, inr, List, [], ◌∷◌, length, Option, Some, None}
use Rattle.std.specs.Prelude.{if◌then◌else◌, option_map}
use Rattle.std.proofs.lemmas.Bool.{cases_eq, cases_Bool, eq-eqb, ne_eqb}
use Rattle.ih_tables.specs.declared.drafts.Draft.{Draft}
use Rattle.ih_tables.specs.declared.ids.RoomNo.{RoomNo}
use Rattle.ih_tables.specs.declared.ids.Shift.{Shift}
use Rattle.ih_tables.specs.declared.ids.NurseNo.{NurseNo}
use Rattle.ih_tables.specs.Sizes.{person_count, room_count, nurse_count, shift_count}
use Rattle.ih_tables.specs.Valid.{IsValid}
use Rattle.ih_links.specs.Lists.{has, IsOnce, AreNodes, first_of, following}
use Rattle.ih_links.proofs.Members.{has-here}
use Rattle.ih_links.proofs.Walks.{rest_from, IsAt, starts, rest-first, goes-on, rest-step}
use Rattle.ih_plan.specs.declared.moves.Write.TheVariants.{SetCare}
use Rattle.ih_plan.specs.Timetable.{Timetable, IsPlanOf, choice_of, care_of}
use Rattle.ih_plan.specs.Writes.{put}
use Rattle.ih_plan.specs.Presence.{day_of, is_present}
use Rattle.ih_plan.specs.Costs.{is_number}
use Rattle.ih_plan.specs.Sums.{bit}
use Rattle.ih_nurses.specs.Counts.{AreCounts, count_at, count_of, one_of}
use Rattle.ih_nurses.proofs.CountLemmas.{count-few, count-kept, count-moves}

-- The persons of a list have the counts of Q, but for those still to come, who have the counts of P.
pub record AreMoved (I : Draft) (P Q : Timetable) (xs counts : List ℕ) (at : Option ℕ) : Type 0 where
  pub known : AreNodes (person_count I) xs
  pub inside : IsAt at xs
  pub len : length counts ≡ person_count I * nurse_count I
  pub each : (y m : ℕ) → y < person_count I → m < nurse_count I
      → count_at I counts y m ≡ (if has y (rest_from at xs) then count_of I P y m else count_of I Q y m)

one-own : (x : ℕ) (n : Option NurseNo) (m : ℕ) → one_of x n x m ≡ bit (is_number (option_map (λ (a : NurseNo). a.0) n) m)
one-own x n m = rw (eq-eqb x x refl) refl

one-other : (x : ℕ) (n : Option NurseNo) (y m : ℕ) → (y ≡ x → ⊥) → one_of x n y m ≡ 0
one-other x n y m ne = rw (ne_eqb x y (λ e. ne (sym e))) refl

-- what is left of a list of nodes has none twice
rest-lacks : (x : ℕ) (xs : List ℕ) → IsOnce xs → has x xs ≡ true → has x (rest_from (following x xs) xs) ≡ false
rest-lacks x xs once there = by_step (rest_from (Some x) xs) (rest-step x xs once there) (rest-once (Some x) xs once)
  where
    by_step : (ys : List ℕ) → ys ≡ x ∷ rest_from (following x xs) xs → IsOnce ys → has x (rest_from (following x xs) xs) ≡ false
    by_step ys e o = (subst IsOnce e o).0

    rest-once : (at : Option ℕ) (zs : List ℕ) → IsOnce zs → IsOnce (rest_from at zs)
    rest-once None zs o = tt
    rest-once (Some z) [] o = tt
    rest-once (Some z) (y ∷ ys) o = elim (cases_eq y z) [
      | inl e ↦ rw (eq-eqb y z e) o
      | inr ne ↦ rw (ne_eqb y z ne) (rest-once (Some z) ys o.1)
    ]

has-cons_other : (y x : ℕ) (ys : List ℕ) → (y ≡ x → ⊥) → has y (x ∷ ys) ≡ has y ys
has-cons_other y x ys ne = rw (ne_eqb x y (λ e. ne (sym e))) refl

module _ (I : Draft) (P : Timetable) (r : RoomNo) (k : Shift) (new : Option NurseNo) (plan : IsPlanOf I P) (room : r.0 < room_count I) (shift : k.0 < shift_count I)
    (xs : List ℕ) (there : (x : ℕ) → x < person_count I → has x xs ≡ is_present I P r.0 (day_of k.0) x) where
  abbrev pub after : Timetable
  after = put (SetCare r k new) P

  pub moved-begins : (counts : List ℕ) (at : Option ℕ) → AreNodes (person_count I) xs → at ≡ first_of xs → AreCounts I P counts → AreMoved I P after xs counts at
  moved-begins counts at known first before = record {
    known = known;
    inside = rw first (starts xs);
    len = before.len;
    each = λ y m yh mh. rw (first, rest-first xs) (elim (cases_Bool (has y xs)) [
      | inl listed ↦ rw listed (before.each y m yh mh)
      | inr absent ↦ rw absent (before.each y m yh mh ∙ sym (count-kept I P r k new plan room shift y (sym (there y yh) ∙ absent) m))
    ]);
  }

  module _ {counts : List ℕ} {at : Option ℕ} (w : AreMoved I P after xs counts at) {x : ℕ} (here : at ≡ Some x) where
    pub moved-inside : has x xs ≡ true
    moved-inside = subst (λ a. IsAt a xs) here w.inside

    pub moved-below : x < person_count I
    moved-below = w.known.below x moved-inside

    left : rest_from at xs ≡ x ∷ rest_from (following x xs) xs
    left = ap (λ a. rest_from a xs) here ∙ rest-step x xs w.known.once moved-inside

    pub moved-shrinks : (next : Option ℕ) → next ≡ following x xs → length (rest_from next xs) < length (rest_from at xs)
    moved-shrinks next is = let e = ap length left in rw is (omega arith)

    pub moved-before : (m : ℕ) → m < nurse_count I → count_at I counts x m ≡ count_of I P x m
    moved-before m mh =
        let mine : has x (rest_from at xs) ≡ true = ap (has x) left ∙ has-here x x (rest_from (following x xs) xs) refl in
        rw mine at (w.each x m moved-below mh)

    moves : (m : ℕ) → count_of I after x m + bit (is_number (care_of P r.0 k.0) m) ≡ count_of I P x m + bit (is_number (option_map (λ (a : NurseNo). a.0) new) m)
    moves = count-moves I P r k new plan room shift x (sym (there x moved-below) ∙ moved-inside)

    module _ (old : Option NurseNo) (old_is : old ≡ choice_of P r.0 k.0) where
      number-is : (m : ℕ) → bit (is_number (option_map (λ (a : NurseNo). a.0) old) m) ≡ bit (is_number (care_of P r.0 k.0) m)
      number-is m = rw old_is refl

      -- the old nurse has the shift
      pub moved-enough : (m : ℕ) → m < nurse_count I → one_of x old x m ≤ count_at I counts x m
      moved-enough m mh =
          let gone = count-moves I P r k None plan room shift x (sym (there x moved-below) ∙ moved-inside) m in
          omega (arith, moved-before m mh, one-own x old m, number-is m, gone)

      module _ (taken : List ℕ) (taken_len : length taken ≡ length counts)
          (taken_each : (y m : ℕ) → m < nurse_count I → count_at I taken y m + one_of x old y m ≡ count_at I counts y m) where
        pub moved-fits : IsValid I → (m : ℕ) → m < nurse_count I → count_at I taken x m < 255
        moved-fits valid m mh = omega (arith, taken_each x m mh, moved-before m mh, count-few I P x m valid)

        pub moved-goes_on : (added : List ℕ) → length added ≡ length taken
            → ((y m : ℕ) → m < nurse_count I → count_at I added y m ≡ count_at I taken y m + one_of x new y m)
            → (next : Option ℕ) → next ≡ following x xs → AreMoved I P after xs added next
        moved-goes_on added added_len added_each next is = record {
          known = w.known;
          inside = rw is (goes-on x xs moved-inside);
          len = added_len ∙ (taken_len ∙ w.len);
          each = λ y m yh mh. rw is (elim (cases_eq y x) [
            | inl same ↦
                let lacks = rest-lacks x xs w.known.once moved-inside in
                rw (same, lacks)
                (omega (arith, added_each x m mh, taken_each x m mh, one-own x old m, one-own x new m, number-is m, moves m, moved-before m mh))
            | inr ne ↦
                let still = ap (has y) left ∙ has-cons_other y x (rest_from (following x xs) xs) ne in
                let before = rw still at (w.each y m yh mh) in
                omega (arith, added_each y m mh, taken_each y m mh, one-other x old y m ne, one-other x new y m ne, before)
          ]);
        }

  pub moved-ends : (counts : List ℕ) (at : Option ℕ) → AreMoved I P after xs counts at → at ≡ None → AreCounts I after counts
  moved-ends counts at w e = record { len = w.len; each = λ y m yh mh. rw e at (w.each y m yh mh) }
