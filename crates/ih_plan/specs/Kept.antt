-- Choices of one timetable that another has too.
use Rattle.std.specs.Prelude.{◌≡◌, ℕ, Bool, true, ◌<◌}
use Rattle.ih_tables.specs.declared.drafts.Draft.{Draft}
use Rattle.ih_tables.specs.Sizes.{room_count, shift_count}
use Rattle.ih_plan.specs.declared.moves.Write.{Write}
use Rattle.ih_plan.specs.declared.moves.Write.TheVariants.{SetStay, SetCare}
use Rattle.ih_plan.specs.Timetable.{Timetable, stay_of, choice_of}

-- a set of choices: of the stays by patient, of the nurses by room and shift
pub record Choices : Type 0 where
  pub stays : ℕ → Bool
  pub nurses : ℕ → ℕ → Bool

-- P has the start's choices of a set.
pub record KeepsChoices (I : Draft) (start : Timetable) (kept : Choices) (P : Timetable) : Type 0 where
  pub stays : (p : ℕ) → kept.stays p ≡ true → stay_of P p ≡ stay_of start p
  pub nurses : (r k : ℕ) → r < room_count I → k < shift_count I → kept.nurses r k ≡ true → choice_of P r k ≡ choice_of start r k

-- the write is of a choice of the set, also where the entry stays as it is
abbrev pub is_write_of_kept : Choices → Write → Bool
is_write_of_kept kept (SetStay p new) = kept.stays p.0
is_write_of_kept kept (SetCare r k n) = kept.nurses r.0 k.0
