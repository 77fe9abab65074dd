-- Writes and moves in range leave a timetable of the instance in range.
use Rattle.std.proofs.Common.{◌≡◌, ℕ, zero, suc, ◌+◌, ◌<◌, ◌≤◌, refl, arith, sym, ap, subst, ◌∙◌, Bool, true, false, List, [], ◌∷◌, inl, inr, length, Option, Some, None, ◌*◌, mul_comm}
use Rattle.std.specs.Prelude.{◌||◌, ◌==◌, if◌then◌else◌, option_map, option_and_then, slice_get, map, filter, IfSome}
use Rattle.std.specs.List.{range_with_len}
use Rattle.std.proofs.lemmas.Bool.{cases_eq, or_left, or_right, or_cases, eq-eqb, eqb-true}
use Rattle.std.proofs.lemmas.List.{length-set, length-replicate}
use Rattle.std.proofs.lemmas.Nat.{mul-add-lt}
use Rattle.ih_tables.specs.declared.drafts.Draft.{Draft}
use Rattle.ih_tables.specs.declared.ids.PatientNo.{PatientNo}
use Rattle.ih_tables.specs.declared.ids.RoomNo.{RoomNo}
use Rattle.ih_tables.specs.declared.ids.NurseNo.{NurseNo}
use Rattle.ih_tables.specs.declared.ids.Shift.{Shift}
use Rattle.ih_tables.specs.Sizes.{patient_count, room_count, shift_count, nurse_count}
use Rattle.ih_plan.specs.declared.moves.Placement.{Placement}
use Rattle.ih_plan.specs.declared.moves.Write.{Write}
use Rattle.ih_plan.specs.declared.moves.Write.TheVariants.{SetStay, SetCare}
use Rattle.ih_plan.specs.declared.moves.Move.{Move}
use Rattle.ih_plan.specs.declared.moves.Move.TheVariants.{Idle, Place, Withdraw, SetDay, SetRoom, SetTheatre, SwapRooms, Nurse, NurseRun, SwapNurses}
use Rattle.ih_plan.specs.Timetable.{Timetable, empty, IsPlanOf, IsPlacement, stay_of, choice_of, care_place}
use Rattle.ih_plan.specs.Writes.{put, put_all, IsWriteOf, AreWritesOf, IsInside}
use Rattle.ih_plan.specs.Expand.{expand, after, IsMoveOf, swap_stays, restay, run_of}
use Rattle.ih_plan.proofs.ListedBelow.{has}
use Rattle.ih_plan.proofs.Entries.{care_of-same, stay_of-other, stay_of-same, slice_get-set_other}
use Rattle.ih_plan.proofs.ReadLemmas.{none-copies}

-- what is in a range
pub has-range : (a n i : ℕ) → has i (range_with_len a n) ≡ true → (a ≤ i) × (i < a + n)
has-range a zero i h = absurd (let no : false ≡ true = h in cc)
has-range a (suc n) i h = elim (or_cases (a == i) (has i (range_with_len (a + 1) n)) h) [
  | inl e ↦ let same = eqb-true a i e in (omega arith, omega arith)
  | inr e ↦ let rest = has-range (a + 1) n i e in (omega arith, omega arith)
]

-- ---- a write

abbrev nurse_at : Timetable → ℕ → Option ℕ
nurse_at P place = option_map (λ (m : NurseNo). m.0) (option_and_then (λ (c : Option NurseNo). c) (slice_get P.cares place))

number-in : (B : ℕ → Type 0) (o : Option NurseNo) (m : ℕ) → ((n : NurseNo) → o ≡ Some n → B n.0) → option_map (λ (n : NurseNo). n.0) o ≡ Some m → B m
number-in B None m fits e = absurd (let no : None ≡ Some m = e in cc)
number-in B (Some n) m fits e = let same : n.0 ≡ m = (let f : Some n.0 ≡ Some m = e in cc) in subst B same (fits n refl)

pub put-plan : (I : Draft) (P : Timetable) (w : Write) → IsPlanOf I P → IsWriteOf I w → IsPlanOf I (put w P)
put-plan I P (SetStay p s) plan fits = record {
  stays = length-set P.stays p.0 s ∙ plan.stays;
  shifts = plan.shifts;
  cares = plan.cares;
  placed = λ x at e. elim (cases_eq x p.0) [
    | inl own ↦
        let sizes = plan.stays in
        let known : p.0 < patient_count I = fits.0 in
        let inside : p.0 < length P.stays = omega arith in
        fits.1 at (sym (stay_of-same P p s inside) ∙ rw own at e)
    | inr other ↦ plan.placed x at (sym (stay_of-other P p s x other) ∙ e)
  ];
  nursed = plan.nursed;
}
put-plan I P (SetCare r k n) plan fits = record {
  stays = plan.stays;
  shifts = plan.shifts;
  cares = length-set P.cares (care_place P r.0 k.0) n ∙ plan.cares;
  placed = plan.placed;
  nursed = λ s l m e. elim (cases_eq (care_place P s l) (care_place P r.0 k.0)) [
    | inl own ↦ number-in (λ j. j < nurse_count I) n m fits.2 (sym (care_of-same I P r k n plan fits.0 fits.1) ∙ ap (nurse_at (put (SetCare r k n) P)) (sym own) ∙ e)
    | inr other ↦ plan.nursed s l m (sym (ap (λ o. option_map (λ (m : NurseNo). m.0) (option_and_then (λ (c : Option NurseNo). c) o))
        (slice_get-set_other P.cares (care_place P r.0 k.0) (care_place P s l) n other)) ∙ e)
  ];
}

-- ---- writes in a row

pub put_all-plan : (I : Draft) (P : Timetable) (ws : List Write) → IsPlanOf I P → AreWritesOf I ws → IsPlanOf I (put_all ws P)
put_all-plan I P [] plan fits = plan
put_all-plan I P (w ∷ ws) plan fits = put_all-plan I (put w P) ws (put-plan I P w plan fits.0) fits.1

-- ---- the writes of a move

run-writes : (I : Draft) (r : RoomNo) (n : NurseNo) (ks : List ℕ) → r.0 < room_count I → n.0 < nurse_count I → ((k : ℕ) → has k ks ≡ true → k < shift_count I)
    → AreWritesOf I (map (λ k. SetCare r (record { 0 = k }) (Some n)) ks)
run-writes I r n [] rh nh within = tt
run-writes I r n (k ∷ ks) rh nh within = (
  (rh, within k (or_left (k == k) (has k ks) (eq-eqb k k refl)), λ m e. let same : n.0 ≡ m.0 = (let f : Some n ≡ Some m = e in cc) in subst (λ j. j < nurse_count I) same nh),
  run-writes I r n ks rh nh (λ j h. within j (or_right (k == j) (has j ks) h)),
)

has-filter : (p : ℕ → Bool) (xs : List ℕ) (k : ℕ) → has k (filter p xs) ≡ true → has k xs ≡ true
has-filter p [] k h = h
has-filter p (x ∷ xs) k h = by_case (p x) (has-filter p xs k) h
  where
    by_case : (b : Bool) → (has k (filter p xs) ≡ true → has k xs ≡ true) → has k (if b then x ∷ filter p xs else filter p xs) ≡ true → ((x == k) || has k xs) ≡ true
    by_case true rest h = elim (or_cases (x == k) (has k (filter p xs)) h) [
      | inl here ↦ or_left (x == k) (has k xs) here
      | inr later ↦ or_right (x == k) (has k xs) (rest later)
    ]
    by_case false rest h = or_right (x == k) (has k xs) (rest h)

one-stay : (I : Draft) (p : PatientNo) (f : Placement → Option Placement) (o : Option Placement) → p.0 < patient_count I
    → ((at : Placement) → o ≡ Some at → IsPlacement I at) → ((at new : Placement) → IsPlacement I at → f at ≡ Some new → IsPlacement I new)
    → AreWritesOf I (restay p f o)
one-stay I p f None known placed fits = tt
one-stay I p f (Some at) known placed fits = ((known, λ new e. fits at new (placed at refl) e), tt)

some-same : {A : Type 0} (B : A → Type 0) (a b : A) → Some a ≡ Some b → B a → B b
some-same B a b e h = let same : a ≡ b = cc in subst B same h

swap-writes : (I : Draft) (p q : PatientNo) (a b : Option Placement) → p.0 < patient_count I → q.0 < patient_count I
    → ((at : Placement) → a ≡ Some at → IsPlacement I at) → ((at : Placement) → b ≡ Some at → IsPlacement I at) → AreWritesOf I (swap_stays p q a b)
swap-writes I p q None b ph qh ah bh = tt
swap-writes I p q (Some a) None ph qh ah bh = tt
swap-writes I p q (Some a) (Some b) ph qh ah bh =
    let one = ah a refl in
    let two = bh b refl in
    let new_a : Placement = record a { room = b.room } in
    let new_b : Placement = record b { room = a.room } in (
      (ph, λ at e. some-same (IsPlacement I) new_a at e (record { day = one.day; room = two.room; theatre = one.theatre })),
      ((qh, λ at e. some-same (IsPlacement I) new_b at e (record { day = two.day; room = one.room; theatre = two.theatre })), tt),
    )

choice-in : (I : Draft) (P : Timetable) (r k : ℕ) (n : NurseNo) → IsPlanOf I P → choice_of P r k ≡ Some n → n.0 < nurse_count I
choice-in I P r k n plan e = plan.nursed r k n.0 (ap (option_map (λ (n : NurseNo). n.0)) e)

-- the writes of a move are in range
pub expand-writes : (I : Draft) (P : Timetable) (m : Move) → IsPlanOf I P → IsMoveOf I m → AreWritesOf I (expand I P m)
unfolding expand
expand-writes I P Idle plan fits = tt
expand-writes I P (Place p at) plan fits = ((fits.0, λ new e. some-same (IsPlacement I) at new e fits.1), tt)
expand-writes I P (Withdraw p) plan fits = one-stay I p (λ at. None) (stay_of P p.0) fits (plan.placed p.0) (λ at new h e. absurd (let no : None ≡ Some new = e in cc))
expand-writes I P (SetDay p d) plan fits = one-stay I p (λ at. Some (record at { day = d })) (stay_of P p.0) fits.0 (plan.placed p.0)
    (λ at new h e. some-same (IsPlacement I) (record at { day = d }) new e (record { day = fits.1; room = h.room; theatre = h.theatre }))
expand-writes I P (SetRoom p r) plan fits = one-stay I p (λ at. Some (record at { room = r })) (stay_of P p.0) fits.0 (plan.placed p.0)
    (λ at new h e. some-same (IsPlacement I) (record at { room = r }) new e (record { day = h.day; room = fits.1; theatre = h.theatre }))
expand-writes I P (SetTheatre p t) plan fits = one-stay I p (λ at. Some (record at { theatre = t })) (stay_of P p.0) fits.0 (plan.placed p.0)
    (λ at new h e. some-same (IsPlacement I) (record at { theatre = t }) new e (record { day = h.day; room = h.room; theatre = fits.1 }))
expand-writes I P (SwapRooms p q) plan fits = by_case (p.0 == q.0)
  where
    by_case : (b : Bool) → AreWritesOf I (if b then [] else swap_stays p q (stay_of P p.0) (stay_of P q.0))
    by_case true = tt
    by_case false = swap-writes I p q (stay_of P p.0) (stay_of P q.0) fits.0 fits.1 (plan.placed p.0) (plan.placed q.0)
expand-writes I P (Nurse r k n) plan fits = ((fits.0, fits.1, λ m e. some-same (λ (j : NurseNo). j.0 < nurse_count I) n m e fits.2), tt)
expand-writes I P (NurseRun n r d len) plan fits =
    run-writes I r n (run_of I n d.0 len) fits.1 fits.0 (λ k h. let within = has-range 0 (shift_count I) k (has-filter _ (range_with_len 0 (shift_count I)) k h) in omega arith)
expand-writes I P (SwapNurses k a b) plan fits = by_case (a.0 == b.0)
  where
    by_case : (t : Bool) → AreWritesOf I (if t then [] else SetCare a k (choice_of P b.0 k.0) ∷ SetCare b k (choice_of P a.0 k.0) ∷ [])
    by_case true = tt
    by_case false = ((fits.1, fits.0, λ m e. choice-in I P b.0 k.0 m plan e), ((fits.2, fits.0, λ m e. choice-in I P a.0 k.0 m plan e), tt))

-- the timetable after a move in range
pub after-plan : (I : Draft) (P : Timetable) (m : Move) → IsPlanOf I P → IsMoveOf I m → IsPlanOf I (after I P m)
after-plan I P m plan fits = put_all-plan I P (expand I P m) plan (expand-writes I P m plan fits)

-- ---- the empty timetable

pub empty-plan : (I : Draft) → IsPlanOf I (empty I)
empty-plan I = record {
  stays = length-replicate (patient_count I) None;
  shifts = refl;
  cares = length-replicate (shift_count I * room_count I) None;
  placed = λ p at e. absurd (let no : None ≡ Some at = sym (none-copies (patient_count I) p) ∙ e in cc);
  nursed = λ r k n e. absurd (let no : None ≡ Some n = sym (ap (option_map (λ (m : NurseNo). m.0)) (none-copies (shift_count I * room_count I) (care_place (empty I) r k))) ∙ e in cc);
}

-- ---- where a write goes

-- the place of a room's choice in a shift is one of the timetable's
pub choice-inside : (I : Draft) (P : Timetable) (r k : ℕ) → IsPlanOf I P → r < room_count I → k < shift_count I → care_place P r k < length P.cares
choice-inside I P r k plan rh kh =
    let width : P.shifts ≡ shift_count I = plan.shifts in
    let place = mul-add-lt r (shift_count I) k (room_count I) rh kh in
    rw (plan.cares, width, mul_comm (shift_count I) r) place

-- who is chosen is one of the instance's nurses
pub nurse-inside : (I : Draft) (P : Timetable) (r k : ℕ) → IsPlanOf I P → IfSome (choice_of P r k) (λ n. n.0 < nurse_count I)
nurse-inside I P r k plan = by_case (choice_of P r k) refl
  where
    by_case : (o : Option NurseNo) → choice_of P r k ≡ o → IfSome o (λ n. n.0 < nurse_count I)
    by_case None e = tt
    by_case (Some n) e = choice-in I P r k n plan e

pub write-inside : (I : Draft) (P : Timetable) (w : Write) → IsPlanOf I P → IsWriteOf I w → IsInside P w
write-inside I P (SetStay p s) plan fits = let sizes : length P.stays ≡ patient_count I = plan.stays in let known = fits.0 in omega arith
write-inside I P (SetCare r k n) plan fits = choice-inside I P r.0 k.0 plan fits.0 fits.1

-- ---- timetables that are made entry by entry

pub stay-plan : (I : Draft) (P : Timetable) (p : PatientNo) (at : Placement) → IsPlanOf I P → p.0 < patient_count I → IsPlacement I at → IsPlanOf I (put (SetStay p (Some at)) P)
stay-plan I P p at plan known fits = put-plan I P (SetStay p (Some at)) plan (known, λ new e. some-same (IsPlacement I) at new e fits)

pub care-plan : (I : Draft) (P : Timetable) (r : RoomNo) (k : Shift) (n : NurseNo) → IsPlanOf I P → r.0 < room_count I → k.0 < shift_count I → n.0 < nurse_count I
    → IsPlanOf I (put (SetCare r k (Some n)) P)
care-plan I P r k n plan rh kh nh = put-plan I P (SetCare r k (Some n)) plan (rh, kh, λ m e. some-same (λ (j : NurseNo). j.0 < nurse_count I) n m e nh)

pub ruleset plan_steps = (empty-plan, stay-plan, care-plan)
