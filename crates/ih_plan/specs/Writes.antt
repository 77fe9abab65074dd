-- What a single write makes of a timetable.
use Rattle.std.specs.Prelude.{◌<◌, List, [], ◌∷◌, length, Some, slice_set, ◌≡◌}
use Rattle.ih_tables.specs.declared.drafts.Draft.{Draft}
use Rattle.ih_tables.specs.declared.ids.NurseNo.{NurseNo}
use Rattle.ih_tables.specs.Sizes.{patient_count, room_count, shift_count, nurse_count}
use Rattle.ih_plan.specs.declared.moves.Placement.{Placement}
use Rattle.ih_plan.specs.declared.moves.Write.{Write}
use Rattle.ih_plan.specs.declared.moves.Write.TheVariants.{SetStay, SetCare}
use Rattle.ih_plan.specs.Timetable.{Timetable, care_place, IsPlacement}

-- the timetable with that one entry replaced
abbrev pub put : Write → Timetable → Timetable
put (SetStay p stay) P = record P { stays = slice_set P.stays p.0 stay }
put (SetCare r k care) P = record P { cares = slice_set P.cares (care_place P r.0 k.0) care }

-- the writes made in order
abbrev pub put_all : List Write → Timetable → Timetable
put_all [] P = P
put_all (w ∷ ws) P = put_all ws (put w P)

-- the write is in range
abbrev pub IsWriteOf : Draft → Write → Type 0
IsWriteOf I (SetStay p stay) = (p.0 < patient_count I) × ((at : Placement) → stay ≡ Some at → IsPlacement I at)
IsWriteOf I (SetCare r k care) = (r.0 < room_count I) × (k.0 < shift_count I)
    × ((n : NurseNo) → care ≡ Some n → n.0 < nurse_count I)

-- each write is in range
abbrev pub AreWritesOf : Draft → List Write → Type 0
AreWritesOf I [] = Unit {0}
AreWritesOf I (w ∷ ws) = IsWriteOf I w × AreWritesOf I ws

-- the write's entry is one of the timetable's
abbrev pub IsInside : Timetable → Write → Type 0
IsInside P (SetStay p stay) = p.0 < length P.stays
IsInside P (SetCare r k care) = care_place P r.0 k.0 < length P.cares
