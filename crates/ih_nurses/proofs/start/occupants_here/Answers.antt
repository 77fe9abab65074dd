use Rattle.std.proofs.Common.{◌∙◌, refl}
use Rattle.ih_nurses.proofs.StartLemmas.{filled-none}
use Rattle.ih_nurses.proofs.start.occupants_here.Goals as goal

pub enter_occupants-requires : goal.enter_occupants-requires
enter_occupants-requires c =
    filled-none c.args.inst.now.draft c.as_mut_slice.result.now
    (c.as_mut_slice.ensures.value ∙ (c.in_ok-here.ensures ∙ rw (c.days.ensures, c.rooms.ensures, c.persons.ensures) refl))
