-- Verdicts on offers that others came before.
use Rattle.std.proofs.Common.{◌≡◌, refl, ℕ, pos, negsuc, [], ◌∷◌, Some}
use Rattle.std.specs.Prelude.{codes}
use Rattle.ih_tables.specs.declared.bills.Bill.{Bill}
use Rattle.ih_tables.specs.declared.cells.Cell.TheVariants.{RoomShift}
use Rattle.ih_tables.specs.Bills.{score, cost}
use Rattle.ih_plan.specs.BillOf.{bill_of, change_of_bill}
use Rattle.ih_plan.specs.Draws.{move_of}
use Rattle.ih_plan.specs.Footprint.{footprint}
use Rattle.ih_plan.proofs.ExampleWards.{two_patients, first_admitted, weights}
use Rattle.ih_plan.proofs.MoveExamples.{nurse, place}
use Rattle.ih_journal.specs.declared.entries.Entry.{Entry}
use Rattle.ih_journal.specs.declared.entries.Verdict.{Verdict}
use Rattle.ih_journal.specs.declared.entries.Verdict.TheVariants.{Accepted, Stale}
use Rattle.ih_journal.specs.Base.{Base}
use Rattle.ih_journal.specs.Tried.{tries}
use Rattle.ih_journal.specs.Attempts.{next_try}
use Rattle.ih_journal.specs.History.{plan_at}
use Rattle.ih_journal.specs.Legal.{verdict_on}
use Rattle.ih_journal.specs.Texts.{journal, line_text}
use Rattle.ih_journal.proofs.Literals.{history_on_literals, options, base, entry, price_of}

-- two workers with two moves each, over the timetable of one patient
abbrev pub two_workers : Base
two_workers = base two_patients first_admitted 0 (options 0 2 2 1000000 0)

-- stale by the cell of the first room in the third shift
abbrev pub stale_room : ℕ → ℕ → Verdict
stale_room seen now = Stale (RoomShift (record { 0 = 0 }) (record { 0 = 2 })) seen now

abbrev pub with_skill : Bill
with_skill = record {
  v = pos 0 ∷ pos 0 ∷ pos 0 ∷ pos 0 ∷ pos 0 ∷ pos 0 ∷ pos 0 ∷ pos 0 ∷ pos 0 ∷ [];
  s = pos 0 ∷ negsuc 1 ∷ pos 2 ∷ pos 0 ∷ pos 0 ∷ pos 0 ∷ pos 0 ∷ pos 0 ∷ [];
}

-- worker 1 gives the third shift to another nurse
abbrev pub nurse_changed : Entry
nurse_changed = entry 1 0 0 0 (nurse 0 2 1) (price_of two_patients first_admitted (nurse 0 2 1)) Accepted

pub nurse_changed-price : nurse_changed.price ≡ with_skill
unfolding history_on_literals
nurse_changed-price = refl

pub nurse_changed-accepted : verdict_on two_workers [] 0 0 (nurse_changed.mv ∷ []) nurse_changed.price ≡ Accepted
unfolding history_on_literals
nurse_changed-accepted = refl

-- worker 0 then offers from before that entry
pub stale_by_nurse : verdict_on two_workers (tries (nurse_changed ∷ [])) 0 0 (place 1 0 0 1 ∷ []) (price_of two_patients first_admitted (place 1 0 0 1)) ≡ stale_room 0 1
unfolding history_on_literals
stale_by_nurse = refl

-- worker 1 takes its change back
abbrev pub nurse_restored : Entry
nurse_restored = entry 1 1 0 1 (nurse 0 2 0) (price_of two_patients (plan_at two_workers (tries (nurse_changed ∷ [])) 1) (nurse 0 2 0)) Accepted

pub changed_back : (plan_at two_workers (tries (nurse_changed ∷ nurse_restored ∷ [])) 2 ≡ first_admitted)
    × (verdict_on two_workers (tries (nurse_changed ∷ nurse_restored ∷ [])) 0 0 (place 1 0 0 1 ∷ []) (price_of two_patients first_admitted (place 1 0 0 1)) ≡ stale_room 0 2)
unfolding history_on_literals
changed_back = (refl, refl)

-- an offer that looks at other cells
abbrev pub other_room : Entry
other_room = entry 0 0 0 0 (place 1 0 1 1) (price_of two_patients first_admitted (place 1 0 1 1)) Accepted

pub disjoint_footprints : (verdict_on two_workers (tries (nurse_changed ∷ [])) 0 0 (other_room.mv ∷ []) other_room.price ≡ Accepted)
    × (score 1000 weights other_room.price ≡ pos 2937)
    × (change_of_bill two_patients (plan_at two_workers (tries (nurse_changed ∷ other_room ∷ [])) 1) (plan_at two_workers (tries (nurse_changed ∷ other_room ∷ [])) 2) ≡ other_room.price)
unfolding history_on_literals
disjoint_footprints = (refl, refl, refl)

-- the footprint after the nurse was changed
pub later_footprint : footprint two_patients (plan_at two_workers (tries (nurse_changed ∷ [])) 1) (place 1 0 0 1)
    ≡ 1 ∷ 2 ∷ 8 ∷ 10 ∷ 12 ∷ 13 ∷ 14 ∷ 24 ∷ 25 ∷ 32 ∷ 37 ∷ []
unfolding history_on_literals
later_footprint = refl

-- ---- the stale move tried again

abbrev pub one_retry : Base
one_retry = base two_patients first_admitted 0 (options 0 2 2 1000000 1)

abbrev pub stale_entry : Entry
stale_entry = entry 0 0 0 0 (place 1 0 0 1) (price_of two_patients first_admitted (place 1 0 0 1)) (stale_room 0 1)

abbrev pub tried_again : Entry
tried_again = entry 0 0 1 2 (place 1 0 0 1) (price_of two_patients (plan_at one_retry (tries (nurse_changed ∷ stale_entry ∷ [])) 2) (place 1 0 0 1)) Accepted

pub again_accepted : (next_try one_retry.options (tries (nurse_changed ∷ stale_entry ∷ [])) 0 ≡ Some (record { number = 0; again = 1 }))
    × (verdict_on one_retry (tries (nurse_changed ∷ stale_entry ∷ [])) 0 2 (tried_again.mv ∷ []) tried_again.price ≡ Accepted)
    × (score 1000 weights tried_again.price ≡ pos 1988)
    × (line_text one_retry.options 2 tried_again ≡ codes "2 0 0 1 2 place:1,0,0,1 1,0,0,0,0,0,1,0,0,1,4,2,2,1,1,0,-1 accepted")
unfolding history_on_literals
again_accepted = (refl, refl, refl, refl)

-- without retries the worker goes on with its next move
pub not_again : next_try two_workers.options (tries (nurse_changed ∷ stale_entry ∷ [])) 0 ≡ Some (record { number = 1; again = 0 })
unfolding history_on_literals
not_again = refl

-- ---- two workers with the last seed

abbrev pub last_seed : Base
last_seed = base two_patients first_admitted 0 (options 18446744073709551615 2 1 1000000 0)

abbrev pub run_first : Entry
run_first = entry 1 0 0 0 (move_of two_patients 18446744073709551615 1 0) (price_of two_patients first_admitted (move_of two_patients 18446744073709551615 1 0)) Accepted

abbrev pub place_second : Entry
place_second = entry 0 0 0 0 (move_of two_patients 18446744073709551615 0 0) (price_of two_patients first_admitted (move_of two_patients 18446744073709551615 0 0))
    (Stale (RoomShift (record { 0 = 0 }) (record { 0 = 0 })) 0 1)

pub last_seed_journal : journal last_seed.options (run_first ∷ place_second ∷ [])
    ≡ codes "ihjournal 1 seed=18446744073709551615 workers=2 moves=1 heat=1000000 hard=1000\n0 1 0 0 nurserun:1,0,0,5 0,0,0,0,0,0,0,0,0,0,-2,0,0,0,0,0,0 accepted\n1 0 0 0 place:0,1,1,1 0,1,0,0,0,0,0,0,3,-1,0,-1,0,0,0,1,0 stale:roomshift.0.0:0:1\n"
unfolding history_on_literals
last_seed_journal = refl

pub last_seed_verdicts : (verdict_on last_seed [] 0 0 (run_first.mv ∷ []) run_first.price ≡ run_first.verdict)
    × (verdict_on last_seed (tries (run_first ∷ [])) 0 0 (place_second.mv ∷ []) place_second.price ≡ place_second.verdict)
    × (score 1000 weights run_first.price ≡ negsuc 19) × (score 1000 weights place_second.price ≡ pos 3997)
    × (cost weights (bill_of two_patients (plan_at last_seed (tries (run_first ∷ place_second ∷ [])) 2)) ≡ pos 139)
unfolding history_on_literals
last_seed_verdicts = (refl, refl, refl, refl, refl)
