use Rattle.std.proofs.Common.{◌≡◌, ℕ, ◌<◌, false}
use Rattle.std.specs.Str.{bytes_eq}
use Rattle.ih_plan.specs.Persons.{person_of}
use Rattle.ih_roomdays.proofs.genders.first_alike.Given as goal

abbrev pub invariant-loop-y : goal.invariant-loop-y
invariant-loop-y l = (z : ℕ) → z < l.y → bytes_eq (person_of l.fn.inst.draft l.fn.person).gender (person_of l.fn.inst.draft z).gender ≡ false
