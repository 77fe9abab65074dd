-- What a room has more on a day of a placement with the patient there than without.
use Rattle.std.proofs.Common.{◌≡◌, ◌<◌, refl, ap, sym, ◌∙◌, true, false, Some, None}
use Rattle.std.specs.Prelude.{◌==◌}
use Rattle.std.proofs.lemmas.Bool.{eq-eqb, and_from}
use Rattle.ih_tables.specs.declared.drafts.Draft.{Draft}
use Rattle.ih_tables.specs.declared.ids.PatientNo.{PatientNo}
use Rattle.ih_tables.specs.declared.ids.Day.{Day}
use Rattle.ih_tables.specs.declared.cells.Cell.TheVariants.{RoomDay}
use Rattle.ih_tables.specs.Sizes.{patient_count}
use Rattle.ih_tables.specs.Bills.{sub_bills}
use Rattle.ih_plan.specs.declared.moves.Placement.{Placement}
use Rattle.ih_plan.specs.declared.moves.Write.TheVariants.{SetStay}
use Rattle.ih_plan.specs.Timetable.{Timetable}
use Rattle.ih_plan.specs.Writes.{put}
use Rattle.ih_plan.specs.Persons.{person_of}
use Rattle.ih_plan.specs.Presence.{covers}
use Rattle.ih_plan.specs.Cells.{part_at}
use Rattle.ih_plan.specs.BillOf.{as_bill}
use Rattle.ih_links.specs.Lists.{without, with_if}
use Rattle.ih_roomdays.specs.declared.bills.RoomDayCounts.{RoomDayCounts}
use Rattle.ih_roomdays.specs.declared.room_lists.RoomLists.{RoomLists}
use Rattle.ih_roomdays.specs.Ledger.{IsLedgerOf}
use Rattle.ih_roomdays.specs.Parts.{room_day_part, room_counts}
use Rattle.ih_roomdays.specs.RoomLists.{persons_at}
use Rattle.ih_roomdays.proofs.OtherPersons.{part-after}

pub delta-is : (I : Draft) (P : Timetable) (v : RoomLists) → IsLedgerOf I P v → (p : PatientNo) → p.0 < patient_count I → (at : Placement) (d : Day) → d.0 < I.days
    → covers at.day.0 (person_of I p.0).length_of_stay d.0 ≡ true → (less more : RoomDayCounts)
    → less ≡ room_counts I at.room.0 (without p.0 (persons_at v at.room.0 d.0)) → more ≡ room_counts I at.room.0 (with_if true p.0 (without p.0 (persons_at v at.room.0 d.0)))
    → sub_bills (as_bill (room_day_part more)) (as_bill (room_day_part less))
    ≡ sub_bills (as_bill (part_at I (put (SetStay p (Some at)) P) (RoomDay at.room d))) (as_bill (part_at I (put (SetStay p None) P) (RoomDay at.room d)))
delta-is I P v stands p known at d day counted less more less_is more_is =
    let here = and_from (at.room.0 == at.room.0) (covers at.day.0 (person_of I p.0).length_of_stay d.0) (eq-eqb at.room.0 at.room.0 refl) counted in
    let old = ap room_day_part less_is ∙ part-after I P v stands p known at.room d day None false refl in
    let new = ap room_day_part more_is ∙ part-after I P v stands p known at.room d day (Some at) true (sym here) in
    ap (λ k. sub_bills (as_bill k) (as_bill (room_day_part less))) new
    ∙ ap (λ k. sub_bills (as_bill (part_at I (put (SetStay p (Some at)) P) (RoomDay at.room d))) (as_bill k)) old
