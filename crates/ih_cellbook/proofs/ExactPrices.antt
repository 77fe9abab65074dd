-- Accepted prices are the changes of the bill at their own places.
use Rattle.std.proofs.Common.{◌≡◌, ℕ, ◌+◌, refl, sym, ap, ◌∙◌, List, [], ◌∷◌, ◌++◌, take, Some}
use Rattle.std.specs.Prelude.{slice_get}
use Rattle.std.proofs.lemmas.List.{take_more}
use Rattle.std.proofs.lemmas.Option.{get_or_from_slice_get, slice_get_within}
use Rattle.ih_plan.specs.Timetable.{IsPlanOf}
use Rattle.ih_plan.specs.Series.{after_all}
use Rattle.ih_plan.specs.BillOf.{change_of_bill}
use Rattle.ih_journal.specs.Tried.{Tried}
use Rattle.ih_journal.specs.declared.entries.Verdict.TheVariants.{Accepted}
use Rattle.ih_journal.specs.Base.{Base}
use Rattle.ih_journal.specs.History.{plan_after, plan_at}
use Rattle.ih_journal.specs.Legal.{IsLegalButDraw}
use Rattle.ih_journal.proofs.Growth.{AreOfMoves, plan_after-more, take-get}
use Rattle.ih_cellbook.specs.Legal.{AreExact, AreLegalButDraws}
use Rattle.ih_cellbook.proofs.Committing.{legal_but-moves}
use Rattle.ih_cellbook.proofs.Exact.{accepted-exact}

-- the entries up to the one at place k
pub take-next : (H : List Tried) (k : ℕ) (e : Tried) → slice_get H k ≡ Some e → take (k + 1) H ≡ take k H ++ e ∷ []
take-next H k e h =
    take_more H k e (slice_get_within H k e h) ∙ ap (λ f. take k H ++ f ∷ []) (get_or_from_slice_get H k e e h)

-- the timetable after an accepted entry
after-accepted : (b : Base) (H : List Tried) (e : Tried) → e.verdict ≡ Accepted → plan_after b (H ++ e ∷ []) ≡ after_all b.instance (plan_after b H) e.moves
after-accepted b H e accepted = plan_after-more b H e ∙ rw accepted refl

-- an entry that may come after these
pub exact-last : (b : Base) (H : List Tried) (e : Tried) → IsPlanOf b.instance b.start → AreOfMoves b.instance H → IsLegalButDraw b H e → e.verdict ≡ Accepted
    → e.price ≡ change_of_bill b.instance (plan_after b H) (plan_after b (H ++ e ∷ []))
exact-last b H e start moves one accepted =
    let verdict = one.verdict in
    accepted-exact b H e.number e.seen e.moves e.price start moves one.move (sym verdict ∙ accepted) one.price
    ∙ sym (ap (change_of_bill b.instance (plan_after b H)) (after-accepted b H e accepted))

-- each of them
pub prices-exact : (b : Base) (H : List Tried) → IsPlanOf b.instance b.start → AreLegalButDraws b H → AreExact b H
prices-exact b H start legal k e h accepted =
    exact-last b (take k H) e start (λ j f g. legal_but-moves b H legal j f (take-get H k j f g)) (legal k e h) accepted
    ∙ ap (λ G. change_of_bill b.instance (plan_at b H k) (plan_after b G)) (sym (take-next H k e h))
