use Rattle.std.proofs.Common.{◌∙◌, ◌+◌, arith, refl, subst}
use Rattle.std.specs.Prelude.{IfOk}
use Rattle.ih_endings.specs.Answers.{HasShelfCause}
use Rattle.ih_endings.specs.Ends.{Ends, Received}
use Rattle.ih_endings.specs.Texts.{ReceivedPart}
use Rattle.ih_endings.specs.declared.status.Status.{Status}
use Rattle.ih_endings.proofs.Later.{cause-from}
use Rattle.ih_frame.specs.Ends.{MadeEnds}
use Rattle.ih_frame.specs.Outcomes.{outcome_of}
use Rattle.ih_frame.proofs.StepByStep.{done, ends, no-puts, puts-then, puts-within, stops, underway-begins, underway-next}
use Rattle.ih_frame.proofs.going_on.go_on.Goals as goal

pub loop-init : goal.loop-init
loop-init g c = record {
  underway = underway-begins (g.P.Steps.steps_to (g.P.Steps.task c.args.steps.now)) (g.P.Steps.state c.args.steps.now) (g.S.Shelf.names c.args.shelf.now)
      (g.O.Sink.text c.args.out.now);
  same = refl;
  lawful = c.requires.lawful;
  left = let asked = c.requires.count in omega (arith, asked);
  few = no-puts (g.O.Sink.puts c.args.out.now);
  read_faults = omega arith;
  write_faults = omega arith;
  put_faults = omega arith;
  lacks = omega arith;
}

pub returns-in_default : goal.returns-in_default
returns-in_default g c =
    let i = c.loop.invariant in
    let old = c.loop.shelf in
    let new = c.finish.new.shelf in
    let first = c.args.shelf.now in
    let steps_to = g.P.Steps.steps_to (g.P.Steps.task c.args.steps.now) in
    let y = g.P.Steps.state c.loop.steps in
    let z = g.P.Steps.state c.step-made.new.self in
    let same = c.finish.ensures.reads in
    let reads = i.read_faults in
    let left = i.left in
    record {
      ends = stops steps_to (g.P.Steps.ends_as (g.P.Steps.task c.args.steps.now)) (g.P.Steps.state c.args.steps.now) y c.args.count c.loop.counter (g.P.Steps.left c.loop.steps)
          (g.S.Shelf.names first) (g.S.Shelf.names old) (g.S.Shelf.names new) (g.O.Sink.text c.args.out.now) (g.O.Sink.text c.loop.out) i.underway i.left
          c.step-made.result (g.S.Shelf.read_faults first) (g.S.Shelf.read_faults old) (g.S.Shelf.read_faults new) (g.S.Shelf.write_faults first)
          (g.S.Shelf.write_faults old) (g.S.Shelf.write_faults new) (g.O.Sink.faults c.args.out.now) (g.O.Sink.faults c.loop.out)
          (g.O.Sink.faults c.finish.new.out) (g.O.Sink.lacks c.args.out.now) (g.O.Sink.lacks c.loop.out) (g.O.Sink.lacks c.finish.new.out) i.read_faults
          i.write_faults i.put_faults i.lacks (g.O.Sink.text c.finish.new.out) c.finish.result z
          (subst (λ t. IfOk c.step-made.result (λ o. g.P.Steps.steps_to t y (outcome_of o) z)) i.same c.step-made.ensures.steps)
          (let more = c.loop-test.true in omega (arith, left, more)) c.in_default.not-Done c.finish.ensures.ends;
      few = puts-within (c.loop.counter + 1) (c.args.count + 1) (g.O.Sink.puts c.args.out.now) (g.O.Sink.puts c.finish.new.out)
          (let more = c.loop-test.true in omega (arith, more))
          (puts-then c.loop.counter (g.O.Sink.puts c.args.out.now) (g.O.Sink.puts c.loop.out) (g.O.Sink.puts c.finish.new.out) i.few c.finish.ensures.once);
      cause = cause-from (g.S.Shelf.read_faults first) (g.S.Shelf.read_faults old) (g.S.Shelf.read_faults new) (g.S.Shelf.write_faults first)
          (g.S.Shelf.write_faults old) (g.S.Shelf.write_faults new) i.read_faults i.write_faults (g.O.Sink.faults c.args.out.now)
          (g.O.Sink.faults c.loop.out) (g.O.Sink.faults c.finish.new.out) i.put_faults c.finish.result c.finish.ensures.cause;
    }

pub loop-preserved : goal.loop-preserved
loop-preserved g c =
    let i = c.loop.invariant in
    let old = c.loop.shelf in
    let new = c.finish.new.shelf in
    let steps_to = g.P.Steps.steps_to (g.P.Steps.task c.args.steps.now) in
    let y = g.P.Steps.state c.loop.steps in
    let z = g.P.Steps.state c.step-made.new.self in
    let before = g.O.Sink.text c.loop.out in
    let after = g.O.Sink.text c.finish.new.out in
    let faults = g.O.Sink.faults c.loop.out in
    let faults' = g.O.Sink.faults c.finish.new.out in
    let cause = HasShelfCause g.S.Shelf old new in
    let part = ReceivedPart before after (g.O.Sink.lacks c.loop.out) (g.O.Sink.lacks c.finish.new.out) in
    let made = MadeEnds c.step-made.result (g.S.Shelf.names old) (g.S.Shelf.names new) in
    let whole = done c.step-made.result (g.S.Shelf.names old) (g.S.Shelf.names new) before after faults faults' cause part
    (subst (λ (s : Status). Ends made cause (Received s before after faults faults') part s) c.in-Done.is c.finish.ensures.ends) in
    let left = i.left in
    let fewer = c.step-made.ensures.left in
    let same = c.finish.ensures.reads in
    record {
      underway = underway-next steps_to (g.P.Steps.ends_as (g.P.Steps.task c.args.steps.now)) (g.P.Steps.state c.args.steps.now) y c.args.count c.loop.counter (g.P.Steps.left c.loop.steps)
          (g.S.Shelf.names c.args.shelf.now) (g.S.Shelf.names old) (g.S.Shelf.names new) (g.O.Sink.text c.args.out.now) before i.underway i.left
          c.step-made.result z (subst (λ t. IfOk c.step-made.result (λ o. g.P.Steps.steps_to t y (outcome_of o) z)) i.same c.step-made.ensures.steps) after whole;
      same = c.step-made.ensures.same ∙ i.same;
      lawful = c.step-made.ensures.lawful;
      left = omega (arith, left, fewer);
      few = puts-then c.loop.counter (g.O.Sink.puts c.args.out.now) (g.O.Sink.puts c.loop.out) (g.O.Sink.puts c.finish.new.out) i.few c.finish.ensures.once;
      read_faults = omega (arith, i.read_faults, same);
      write_faults = omega (arith, i.write_faults, c.finish.ensures.shelf_count);
      put_faults = omega (arith, i.put_faults, c.finish.ensures.count);
      lacks = omega (arith, i.lacks, c.finish.ensures.lack_count);
    }

pub returns-clause-ends : goal.returns-clause-ends
returns-clause-ends g c =
    let i = c.loop.invariant in
    let old = c.loop.shelf in
    let new = c.finish-2.new.shelf in
    let first = c.args.shelf.now in
    let same = c.finish-2.ensures.reads in
    let left = i.left in
    ends (g.P.Steps.steps_to (g.P.Steps.task c.args.steps.now)) (g.P.Steps.ends_as (g.P.Steps.task c.args.steps.now)) (g.P.Steps.state c.args.steps.now) (g.P.Steps.state c.loop.steps)
    c.args.count c.loop.counter (g.P.Steps.left c.loop.steps) (g.S.Shelf.names first) (g.S.Shelf.names old) (g.S.Shelf.names new)
    (g.O.Sink.text c.args.out.now) (g.O.Sink.text c.loop.out) i.underway i.left c.end-made.result (g.S.Shelf.read_faults first)
    (g.S.Shelf.read_faults old) (g.S.Shelf.read_faults new) (g.S.Shelf.write_faults first) (g.S.Shelf.write_faults old) (g.S.Shelf.write_faults new)
    (g.O.Sink.faults c.args.out.now) (g.O.Sink.faults c.loop.out) (g.O.Sink.faults c.finish-2.new.out) (g.O.Sink.lacks c.args.out.now)
    (g.O.Sink.lacks c.loop.out) (g.O.Sink.lacks c.finish-2.new.out) i.read_faults i.write_faults i.put_faults i.lacks (g.O.Sink.text c.finish-2.new.out)
    c.finish-2.result
    (subst (λ t. IfOk c.end-made.result (λ o. g.P.Steps.ends_as t (g.P.Steps.state c.loop.steps) (outcome_of o))) i.same c.end-made.ensures.ends)
    c.finish-2.ensures.ends
