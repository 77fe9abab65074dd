use Rattle.std.proofs.Common.{◌∙◌, ap, nat_lt}
use Rattle.ih_links.specs.Lists.{has, list_of}
use Rattle.ih_plan.specs.Sums.{bit}
use Rattle.ih_theatres.proofs.OtherPatients.{others-there}
use Rattle.ih_theatres.proofs.changes.is_used_by_others.Goals as goal

pub returns : goal.returns
returns c =
    let xs = list_of c.args.links.now c.args.head in
    ap (λ n. nat_lt n c.len.result) (c.bit.ensures.value ∙ ap bit c.requires.there)
    ∙ (ap (λ n. nat_lt (bit (has c.args.patient.0 xs)) n) c.len.ensures ∙ others-there c.args.patient.0 xs c.requires.once)
