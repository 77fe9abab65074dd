-- Schedules of the core over the ward of the worked examples, computed event by event.
use Rattle.std.proofs.Common.{◌≡◌, refl, [], ◌∷◌, map, List}
use Rattle.std.specs.Prelude.{⊤}
use Rattle.ih_plan.specs.Series.{footprint_of_all}
use Rattle.ih_plan.proofs.MoveExamples.{nurse, place}
use Rattle.ih_journal.specs.Tried.{Tried, tries}
use Rattle.ih_journal.specs.declared.entries.Verdict.TheVariants.{Accepted}
use Rattle.ih_journal.specs.Base.{Base}
use Rattle.ih_journal.proofs.Literals.{history_on_literals}
use Rattle.ih_journal.proofs.StaleVerdicts.{two_workers, one_retry, stale_room, nurse_changed, other_room, stale_entry, tried_again}
use Rattle.ih_journal.proofs.FrozenVerdicts.{warm, later_day, admitted, withdrawn}
use Rattle.ih_cellbook.specs.Counters.{verdict_by_counters}
use Rattle.ih_cellbook.specs.Core.{Event, looks, offers, opening, run_from}

unfoldable pub core_on_literals : ⊤
unfolding history_on_literals footprint_of_all verdict_by_counters run_from
core_on_literals = tt

-- the entries of a schedule
abbrev after_events : Base → List Event → List Tried
after_events b events = (run_from b opening events).history

-- worker 1 gives a shift to another nurse; worker 0 priced its move before that
abbrev first_two : List Event
first_two = offers 1 0 (nurse 0 2 1 ∷ []) ∷ offers 0 0 (place 1 0 0 1 ∷ []) ∷ []

pub stale_through_a_nurse : after_events two_workers first_two ≡ tries (nurse_changed ∷ stale_entry ∷ [])
unfolding core_on_literals
stale_through_a_nurse = refl

-- the accepted move raised the counter of the room in that shift, and no other shift's; the stale one raised none
pub counters_after_two : map (run_from two_workers opening first_two).counters (14 ∷ 12 ∷ 26 ∷ 32 ∷ 36 ∷ 38 ∷ 1 ∷ []) ≡ 1 ∷ 0 ∷ 1 ∷ 1 ∷ 1 ∷ 1 ∷ 0 ∷ []
unfolding core_on_literals
counters_after_two = refl

-- changed and changed back: the timetable is the start again, and yet the price is stale
pub changed_back_is_stale : map (λ (e : Tried). e.verdict)
    (after_events two_workers (offers 1 0 (nurse 0 2 1 ∷ []) ∷ offers 1 1 (nurse 0 2 0 ∷ []) ∷ offers 0 0 (place 1 0 0 1 ∷ []) ∷ []))
    ≡ Accepted ∷ Accepted ∷ stale_room 0 2 ∷ []
unfolding core_on_literals
changed_back_is_stale = refl

-- an old price in another room stands
pub disjoint_is_accepted : after_events two_workers (offers 1 0 (nurse 0 2 1 ∷ []) ∷ offers 0 0 (place 1 0 1 1 ∷ []) ∷ []) ≡ tries (nurse_changed ∷ other_room ∷ [])
unfolding core_on_literals
disjoint_is_accepted = refl

-- with a retry the worker of the stale move looks, and tries it again
pub stale_then_again : after_events one_retry (offers 1 0 (nurse 0 2 1 ∷ []) ∷ offers 0 0 (place 1 0 0 1 ∷ []) ∷ looks 0 ∷ offers 0 2 (place 1 0 0 1 ∷ []) ∷ [])
    ≡ tries (nurse_changed ∷ stale_entry ∷ tried_again ∷ [])
unfolding core_on_literals
stale_then_again = refl

-- with the first day frozen, two moves later the timetable is the start again
pub frozen_then_free : after_events warm (offers 0 0 (later_day.mv ∷ []) ∷ offers 0 1 (admitted.mv ∷ []) ∷ offers 0 2 (withdrawn.mv ∷ []) ∷ []) ≡ tries (later_day ∷ admitted ∷ withdrawn ∷ [])
unfolding core_on_literals
frozen_then_free = refl
