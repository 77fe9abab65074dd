-- Moves that leave what is pinned as it is.
use Rattle.std.proofs.Common.{◌≡◌, ◌∙◌, ℕ, zero, suc, ◌+◌, ◌<◌, ◌≤◌, refl, sym, ap, arith, inl, inr, Bool, true, false, List, [], ◌∷◌, Option, Some, None}
use Rattle.std.specs.Prelude.{◌||◌, ◌&&◌, ◌==◌}
use Rattle.std.specs.List.{list_any, range_with_len}
use Rattle.std.proofs.lemmas.Bool.{and_parts, cases_lt, leb-true, ltb-true}
use Rattle.ih_tables.specs.declared.drafts.Draft.{Draft}
use Rattle.ih_tables.specs.declared.ids.NurseNo.{NurseNo}
use Rattle.ih_tables.specs.declared.ids.PatientNo.{PatientNo}
use Rattle.ih_tables.specs.declared.ids.RoomNo.{RoomNo}
use Rattle.ih_tables.specs.declared.ids.Shift.{Shift}
use Rattle.ih_tables.specs.Sizes.{shift_count}
use Rattle.ih_plan.specs.declared.moves.Move.{Move}
use Rattle.ih_plan.specs.declared.moves.Move.TheVariants.{Idle, Place, Withdraw, SetDay, SetRoom, SetTheatre, SwapRooms, Nurse, NurseRun, SwapNurses}
use Rattle.ih_plan.specs.declared.moves.Placement.{Placement}
use Rattle.ih_plan.specs.declared.moves.Write.{Write}
use Rattle.ih_plan.specs.declared.moves.Write.TheVariants.{SetCare}
use Rattle.ih_plan.specs.Expand.{IsMoveOf, after, expand, in_run, swap_stays}
use Rattle.ih_plan.specs.Presence.{covers, day_of}
use Rattle.ih_plan.specs.Kept.{is_write_of_kept}
use Rattle.ih_plan.specs.Timetable.{Timetable, IsPlanOf, choice_of, stay_of}
use Rattle.ih_plan.proofs.Keeping.{keeps-put_all, neither}
use Rattle.ih_plan.proofs.PlanRanges.{expand-writes}
use Rattle.ih_changes.specs.Changes.{is_occupied}
use Rattle.ih_improve.specs.Pinned.{KeepsPinned, PinsState, is_pinned, is_pinned_on, is_run_pinned, may_be_pinned, pinned_choices}
use Rattle.ih_improve.proofs.FreeWrites.{both, if-free, restay-free, run-free, swap-free}

-- the write is of a choice that is pinned
abbrev is_pinned_write : Draft → Timetable → PinsState → Write → Bool
is_pinned_write I S pins = is_write_of_kept (pinned_choices I S pins)

module _ (I : Draft) (S : Timetable) (pins : PinsState) where
  -- what holds of no number of a range
  none-of : (f : ℕ → Bool) (d len x : ℕ) → list_any f (range_with_len d len) ≡ false → d ≤ x → x < d + len → f x ≡ false
  none-of f d zero x none low high = absurd (omega (arith, low, high))
  none-of f d (suc len) x none low high =
      let parts = neither (f d) (list_any f (range_with_len (d + 1) len)) none in
      elim (cases_lt d x) [
        | inl above ↦ none-of f (d + 1) len x parts.1 (omega (arith, above)) (omega (arith, high))
        | inr below ↦
            let same : x ≡ d = omega (arith, low, below) in
            ap f same ∙ parts.0
      ]

  free-run : (n : NurseNo) (r d len : ℕ) → is_run_pinned I S pins r d len ≡ false → (k : ℕ) → in_run I n d len k ≡ true
      → is_pinned_on I S pins r (day_of k) ≡ false
  free-run n r d len free k on = by_case pins.nurses free
    where
      inside : covers d len (day_of k) ≡ true
      inside = (and_parts _ (covers d len (day_of k)) on).1

      by_case : (b : Bool) → (b && list_any (is_occupied I S r) (range_with_len d len)) ≡ false → (b && is_occupied I S r (day_of k)) ≡ false
      by_case false h = refl
      by_case true h =
          let ends = and_parts _ _ inside in
          none-of (is_occupied I S r) d len (day_of k) h (leb-true d (day_of k) ends.0) (ltb-true (day_of k) (d + len) ends.1)

  module _ (P : Timetable) where
    writes-free : (m : Move) → may_be_pinned I S pins m ≡ false → list_any (is_pinned_write I S pins) (expand I P m) ≡ false
    unfolding expand
    writes-free Idle h = refl
    writes-free (Place p at) h = both _ false h refl
    writes-free (Withdraw p) h = restay-free (is_pinned_write I S pins) p (λ at. None) (stay_of P p.0) (λ at e. h)
    writes-free (SetDay p d) h = restay-free (is_pinned_write I S pins) p (λ at. Some (record at { day = d })) (stay_of P p.0) (λ at e. h)
    writes-free (SetRoom p r) h = restay-free (is_pinned_write I S pins) p (λ at. Some (record at { room = r })) (stay_of P p.0) (λ at e. h)
    writes-free (SetTheatre p t) h = restay-free (is_pinned_write I S pins) p (λ at. Some (record at { theatre = t })) (stay_of P p.0) (λ at e. h)
    writes-free (SwapRooms p q) h =
        let parts = neither (is_pinned pins p.0) (is_pinned pins q.0) h in
        if-free (is_pinned_write I S pins) (p.0 == q.0) (swap_stays p q (stay_of P p.0) (stay_of P q.0))
        (swap-free (is_pinned_write I S pins) p q (stay_of P p.0) (stay_of P q.0) (λ a b own other. (parts.0, parts.1)))
    writes-free (Nurse r k n) h = both _ false h refl
    writes-free (NurseRun n r d len) h =
        run-free (is_pinned_write I S pins) r n (in_run I n d.0 len) (range_with_len 0 (shift_count I)) (free-run n r.0 d.0 len h)
    writes-free (SwapNurses k a b) h =
        let parts = neither (is_pinned_on I S pins a.0 (day_of k.0)) (is_pinned_on I S pins b.0 (day_of k.0)) h in
        if-free (is_pinned_write I S pins) (a.0 == b.0) (SetCare a k (choice_of P b.0 k.0) ∷ SetCare b k (choice_of P a.0 k.0) ∷ []) (both _ _ parts.0 (both _ false parts.1 refl))

    -- a move that may change nothing of it
    pub keeps-move : (m : Move) → IsPlanOf I P → IsMoveOf I m → KeepsPinned I S pins P → may_be_pinned I S pins m ≡ false
        → KeepsPinned I S pins (after I P m)
    keeps-move m plan fits agrees h = keeps-put_all I S (pinned_choices I S pins) P (expand I P m) plan (expand-writes I P m plan fits) agrees (writes-free m h)
