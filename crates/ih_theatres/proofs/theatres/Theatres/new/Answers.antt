use Rattle.std.proofs.Common.{◌*◌, ◌∙◌, ap, rules}
use Rattle.ih_theatres.proofs.LedgerLemmas.{ledger-new}
use Rattle.ih_theatres.proofs.theatres.Theatres.new.Goals as goal

pub returns : goal.returns
returns c =
    let I = c.args.inst.now.draft in
    let of_theatres = c.day_count-of_theatres.ensures ∙ ap (λ n. n * I.days) c.theatres.ensures in
    let of_surgeons = c.day_count-of_surgeons.ensures ∙ ap (λ n. n * I.days) c.surgeons.ensures in
    ledger-new I _
    (rw (c.patients-patients.ensures) at (c.in_ok-theatres.ensures.items_if_clones_equal (search rules)))
    (rw of_theatres at c.in_ok-theatre_days.ensures.lists) (c.in_ok-theatre_days.ensures.nodes ∙ c.patients-patients.ensures)
    (rw of_surgeons at c.in_ok-surgeon_days.ensures.lists) (c.in_ok-surgeon_days.ensures.nodes ∙ c.patients-patients.ensures)
    (rw of_theatres at (c.in_ok-theatre_minutes.ensures.items_if_clones_equal (search rules)))
    (rw of_surgeons at (c.in_ok-surgeon_minutes.ensures.items_if_clones_equal (search rules)))
