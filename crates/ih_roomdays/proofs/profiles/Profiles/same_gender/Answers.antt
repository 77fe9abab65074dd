use Rattle.std.proofs.Common.{arith}
use Rattle.ih_roomdays.proofs.profiles.Profiles.same_gender.Goals as goal

pub returns : goal.returns
returns c = λ I known.
    let len = known.genders.len in
    rw c.as_slice-genders.ensures.value (known.genders.each c.args.person c.args.other (omega arith) (omega arith))
