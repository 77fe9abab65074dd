use Rattle.std.proofs.Common.{◌∙◌, arith, sym}
use Rattle.ih_theatres.proofs.OtherPatients.{minutes-there, minutes-away}
use Rattle.ih_theatres.proofs.Minutes.{duration-is}
use Rattle.ih_theatres.proofs.changes.minutes_but.Goals as goal

pub overflow_sub-result : goal.overflow_sub-result
overflow_sub-result c =
    let list = c.requires.list in
    let sum = minutes-there c.args.inst.now.draft c.args.patient.0 list.0 list.1 (sym list.3 ∙ c.if-there.true) in
    let mine = duration-is c.args.inst.now.draft c.args.patient.0 c.patient.result.now c.patient.ensures in
    let all = list.2 in
    omega arith

pub returns-then-there-clause-sum : goal.returns-then-there-clause-sum
returns-then-there-clause-sum c = λ xs once all there.
    let sum = minutes-there c.args.inst.now.draft c.args.patient.0 xs once (sym there ∙ c.if-there.true) in
    let mine = duration-is c.args.inst.now.draft c.args.patient.0 c.patient.result.now c.patient.ensures in
    omega arith

pub returns-else-there-clause-sum : goal.returns-else-there-clause-sum
returns-else-there-clause-sum c = λ xs once all there.
    all ∙ minutes-away c.args.inst.now.draft c.args.patient.0 xs (sym there ∙ c.if-there.false)
