-- How a write is taken back.
use Rattle.ih_plan.specs.declared.moves.Write.{Write}
use Rattle.ih_plan.specs.declared.moves.Write.TheVariants.{SetStay, SetCare}
use Rattle.ih_plan.specs.Timetable.{Timetable, stay_of, choice_of}

-- the write that brings back the entry that a write replaces
abbrev pub undo_of : Timetable → Write → Write
undo_of P (SetStay p stay) = SetStay p (stay_of P p.0)
undo_of P (SetCare r k care) = SetCare r k (choice_of P r.0 k.0)
