use Rattle.std.proofs.Common.{◌≡◌, take, false}
use Rattle.std.specs.Prelude.{not}
use Rattle.std.specs.List.{list_any}
use Rattle.std.specs.Str.{bytes_eq}
use Rattle.ih_plan.specs.Persons.{person_of}
use Rattle.ih_validate.proofs.days.differs.Given as goal

abbrev pub invariant-loop-y : goal.invariant-loop-y
invariant-loop-y l = list_any (λ y. not (bytes_eq (person_of l.inst.draft l.person).gender (person_of l.inst.draft y).gender)) (take l.y-index l.others) ≡ false
