-- Verdicts with and without a freeze day, over the timetable of one patient.
use Rattle.std.proofs.Common.{◌≡◌, refl, pos, [], ◌∷◌, ℕ, List}
use Rattle.std.specs.Prelude.{codes}
use Rattle.ih_tables.specs.Bills.{score, cost}
use Rattle.ih_plan.specs.declared.moves.Move.{Move}
use Rattle.ih_plan.specs.declared.moves.Move.TheVariants.{SetDay, Withdraw}
use Rattle.ih_plan.specs.BillOf.{bill_of}
use Rattle.ih_plan.specs.Draws.{move_of}
use Rattle.ih_plan.proofs.ExampleWards.{two_patients, first_admitted, weights}
use Rattle.ih_plan.proofs.MoveExamples.{place}
use Rattle.ih_journal.specs.declared.entries.Entry.{Entry}
use Rattle.ih_journal.specs.declared.entries.Verdict.{Verdict}
use Rattle.ih_journal.specs.declared.entries.Verdict.TheVariants.{Accepted, Frozen}
use Rattle.ih_journal.specs.Base.{Base}
use Rattle.ih_journal.specs.Tried.{tries}
use Rattle.ih_journal.specs.History.{plan_at}
use Rattle.ih_journal.specs.Legal.{verdict_on}
use Rattle.ih_journal.specs.Texts.{journal, price_text}
use Rattle.ih_journal.proofs.Literals.{history_on_literals, options, base, entry, price_of}

-- one worker with two moves, and a freeze day
abbrev pub two_moves : ℕ → Base
two_moves freeze = base two_patients first_admitted freeze (options 0 1 2 0 0)

-- the first draw, with a verdict
abbrev pub first_draw : Verdict → Entry
first_draw v = entry 0 0 0 0 (move_of two_patients 0 0 0) (price_of two_patients first_admitted (move_of two_patients 0 0 0)) v

abbrev pub second_draw : Entry
second_draw = entry 0 1 0 1 (move_of two_patients 0 0 1) (price_of two_patients (plan_at (two_moves 0) (tries (first_draw Accepted ∷ [])) 1) (move_of two_patients 0 0 1)) Accepted

abbrev pub two_entries : List Entry
two_entries = first_draw Accepted ∷ second_draw ∷ []

pub two_moves_verdicts : (verdict_on (two_moves 0) [] 0 0 ((first_draw Accepted).mv ∷ []) (first_draw Accepted).price ≡ Accepted)
    × (verdict_on (two_moves 0) (tries (first_draw Accepted ∷ [])) 1 1 (second_draw.mv ∷ []) second_draw.price ≡ Accepted)
unfolding history_on_literals
two_moves_verdicts = (refl, refl)

pub two_moves_journal : journal (two_moves 0).options two_entries
    ≡ codes "ihjournal 1 seed=0 workers=1 moves=2 heat=0 hard=1000\n0 0 0 0 nurserun:1,0,0,5 0,0,0,0,0,0,0,0,0,0,-2,0,0,0,0,0,0 accepted\n1 0 1 1 nurse:1,5,0 0,0,0,0,0,0,0,0,0,0,0,0,0,0,0,0,0 accepted\n"
unfolding history_on_literals
two_moves_journal = refl

pub two_moves_costs : (cost weights (bill_of two_patients (plan_at (two_moves 0) (tries two_entries) 1)) ≡ pos 139) × (cost weights (bill_of two_patients first_admitted) ≡ pos 159)
unfolding history_on_literals
two_moves_costs = (refl, refl)

-- with the first day frozen the run over both days is refused
pub first_day_frozen : (verdict_on (two_moves 1) [] 0 0 ((first_draw Frozen).mv ∷ []) (first_draw Frozen).price ≡ Frozen)
    × (verdict_on (two_moves 1) (tries (first_draw Frozen ∷ [])) 1 1 (second_draw.mv ∷ []) second_draw.price ≡ Accepted)
    × (second_draw.price ≡ price_of two_patients (plan_at (two_moves 1) (tries (first_draw Frozen ∷ [])) 1) second_draw.mv)
unfolding history_on_literals
first_day_frozen = (refl, refl, refl)

pub first_day_journal : journal (two_moves 1).options (first_draw Frozen ∷ second_draw ∷ [])
    ≡ codes "ihjournal 1 seed=0 workers=1 moves=2 heat=0 hard=1000\n0 0 0 0 nurserun:1,0,0,5 0,0,0,0,0,0,0,0,0,0,-2,0,0,0,0,0,0 frozen\n1 0 1 1 nurse:1,5,0 0,0,0,0,0,0,0,0,0,0,0,0,0,0,0,0,0 accepted\n"
unfolding history_on_literals
first_day_journal = refl

-- ---- three offers with the first day frozen, at any price

abbrev pub warm : Base
warm = base two_patients first_admitted 1 (options 0 1 3 1000000 0)

-- the patient who is in hospital on the first day stays
abbrev pub later_day : Entry
later_day = entry 0 0 0 0 (SetDay (record { 0 = 0 }) (record { 0 = 1 })) (price_of two_patients first_admitted (SetDay (record { 0 = 0 }) (record { 0 = 1 }))) Frozen

-- another one may come on the second day
abbrev pub admitted : Entry
admitted = entry 0 1 0 1 (place 1 1 1 1) (price_of two_patients first_admitted (place 1 1 1 1)) Accepted

abbrev pub leaves : Move
leaves = Withdraw (record { 0 = 1 })

abbrev pub withdrawn : Entry
withdrawn = entry 0 2 0 2 leaves (price_of two_patients (plan_at warm (tries (later_day ∷ admitted ∷ [])) 2) leaves) Accepted

pub warm_verdicts : (verdict_on warm [] 0 0 (later_day.mv ∷ []) later_day.price ≡ Frozen)
    × (verdict_on warm (tries (later_day ∷ [])) 1 1 (admitted.mv ∷ []) admitted.price ≡ Accepted)
    × (verdict_on warm (tries (later_day ∷ admitted ∷ [])) 2 2 (withdrawn.mv ∷ []) withdrawn.price ≡ Accepted)
unfolding history_on_literals
warm_verdicts = (refl, refl, refl)

pub warm_prices : (price_text admitted.price ≡ codes "0,0,0,0,0,0,0,0,3,0,0,0,0,1,0,1,-1") × (score 1000 weights admitted.price ≡ pos 2934)
    × (price_text withdrawn.price ≡ codes "0,0,0,0,0,0,0,0,-3,0,0,0,0,-1,0,-1,1")
    × (plan_at warm (tries (later_day ∷ admitted ∷ withdrawn ∷ [])) 3 ≡ first_admitted)
unfolding history_on_literals
warm_prices = (refl, refl, refl, refl)
