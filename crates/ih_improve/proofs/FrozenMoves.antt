-- Moves that leave the choices before the freeze day as they are.
use Rattle.std.proofs.Common.{◌≡◌, ℕ, refl, sym, ap, ◌∙◌, arith, true, false, [], ◌∷◌, Some, None}
use Rattle.std.specs.Prelude.{nat_lt, ◌==◌}
use Rattle.std.specs.List.{list_any, range_with_len}
use Rattle.ih_tables.specs.declared.drafts.Draft.{Draft}
use Rattle.ih_tables.specs.declared.ids.NurseNo.{NurseNo}
use Rattle.ih_tables.specs.Sizes.{shift_count}
use Rattle.ih_plan.specs.declared.moves.Move.{Move}
use Rattle.ih_plan.specs.declared.moves.Move.TheVariants.{Idle, Place, Withdraw, SetDay, SetRoom, SetTheatre, SwapRooms, Nurse, NurseRun, SwapNurses}
use Rattle.ih_plan.specs.declared.moves.Placement.{Placement}
use Rattle.ih_plan.specs.declared.moves.Write.TheVariants.{SetCare}
use Rattle.ih_plan.specs.Expand.{IsMoveOf, after, expand, in_run, swap_stays}
use Rattle.ih_plan.specs.Presence.{day_of}
use Rattle.ih_plan.specs.Timetable.{Timetable, IsPlanOf, choice_of, stay_of}
use Rattle.ih_plan.proofs.PlanRanges.{expand-writes}
use Rattle.ih_plan.specs.Frozen.{KeepsFrozen, is_before, is_frozen_write}
use Rattle.ih_plan.proofs.Freezing.{agrees-put_all}
use Rattle.ih_plan.proofs.Keeping.{neither}
use Rattle.ih_improve.specs.Frozen.{may_be_frozen}
use Rattle.ih_improve.proofs.FreeWrites.{both, if-free, restay-free, run-free, swap-free}

module _ (I : Draft) (S : Timetable) (f : ℕ) where
  late-days : (n : NurseNo) (d len : ℕ) → nat_lt d f ≡ false → (k : ℕ) → in_run I n d len k ≡ true → nat_lt (day_of k) f ≡ false
  late-days n d len late k on = grind arith

  module _ (P : Timetable) (agrees : KeepsFrozen I S f P) where
    -- where the patient stands is not before the freeze day, if the start's stay isn't
    stands-late : (p : ℕ) (at : Placement) → is_before f (stay_of S p) ≡ false → stay_of P p ≡ Some at → is_before f (Some at) ≡ false
    stands-late p at early e = ap (is_before f) (sym e) ∙ agrees.others p early

    writes-free : (m : Move) → may_be_frozen S f m ≡ false → list_any (is_frozen_write S f) (expand I P m) ≡ false
    unfolding expand
    writes-free Idle h = refl
    writes-free (Place p at) h = both _ false h refl
    writes-free (Withdraw p) h = restay-free (is_frozen_write S f) p (λ at. None) (stay_of P p.0) (λ at e. both _ false h refl)
    writes-free (SetDay p d) h = restay-free (is_frozen_write S f) p (λ at. Some (record at { day = d })) (stay_of P p.0) (λ at e. h)
    writes-free (SetRoom p r) h = restay-free (is_frozen_write S f) p (λ at. Some (record at { room = r })) (stay_of P p.0) (λ at e. both _ _ h (stands-late p.0 at h e))
    writes-free (SetTheatre p t) h = restay-free (is_frozen_write S f) p (λ at. Some (record at { theatre = t })) (stay_of P p.0) (λ at e. both _ _ h (stands-late p.0 at h e))
    writes-free (SwapRooms p q) h =
        let parts = neither (is_before f (stay_of S p.0)) (is_before f (stay_of S q.0)) h in
        if-free (is_frozen_write S f) (p.0 == q.0) (swap_stays p q (stay_of P p.0) (stay_of P q.0))
        (swap-free (is_frozen_write S f) p q (stay_of P p.0) (stay_of P q.0)
        (λ a b own other. (both _ _ parts.0 (stands-late p.0 a parts.0 own), both _ _ parts.1 (stands-late q.0 b parts.1 other))))
    writes-free (Nurse r k n) h = both _ false h refl
    writes-free (NurseRun n r d len) h =
        run-free (is_frozen_write S f) r n (in_run I n d.0 len) (range_with_len 0 (shift_count I)) (late-days n d.0 len h)
    writes-free (SwapNurses k a b) h = if-free (is_frozen_write S f) (a.0 == b.0) (SetCare a k (choice_of P b.0 k.0) ∷ SetCare b k (choice_of P a.0 k.0) ∷ []) (both _ _ h (both _ false h refl))

    -- a move that may change none of them
    pub keeps-move : (m : Move) → IsPlanOf I P → IsMoveOf I m → may_be_frozen S f m ≡ false → KeepsFrozen I S f (after I P m)
    keeps-move m plan fits h = agrees-put_all I S f P (expand I P m) plan (expand-writes I P m plan fits) agrees (writes-free m h)
