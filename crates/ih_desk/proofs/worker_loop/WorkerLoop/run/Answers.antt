use Rattle.std.proofs.Common.{◌≡◌, ◌+◌, ◌*◌, ◌≤◌, ◌∙◌, arith, refl, subst, ap}
use Rattle.ih_plan.specs.Draws.{stream_at}
use Rattle.ih_journal.specs.declared.settings.Options.{Options}
use Rattle.ih_journal.specs.Attempts.{HasMade}
use Rattle.ih_journal.proofs.Growth.{has_made-all}
use Rattle.ih_turn.specs.Seats.{history, number_of}
use Rattle.ih_desk.specs.Desks.{base_of}
use Rattle.ih_desk.specs.Finishing.{AreDrawn}
use Rattle.ih_desk.specs.WorkerLoopState.{WorkerLoopState}
use Rattle.ih_desk.proofs.Attempting.{drawn-none, made-none, none-drawn, one-later, same-caught_up}
use Rattle.ih_desk.proofs.CatchingUp.{own-none}
use Rattle.ih_desk.proofs.worker_loop.WorkerLoop.run.Goals as goal
use Rattle.ih_cellbook.proofs.Staying.{new-within}

pub loop-attempt_no-init : goal.loop-attempt_no-init
loop-attempt_no-init g c =
    let b = base_of c.args.desk.now in
    let n = number_of c.args.seat in
    let H = history c.args.seat in
    let new = c.requires.new in
    let turns = c.requires.turns in
    record {
      own = c.requires.own;
      same = refl;
      caught_up = record {
        within = record { own = new.own; replica = new-within b H c.args.self.now.replica new.replica };
        seen = own-none n c.args.self.now.replica.seen H c.requires.none;
      };
      made = made-none b.options n H c.requires.none;
      drawn = drawn-none b c.args.self.now.moves_each n H c.requires.none;
      stream = new.stream ∙ ap (stream_at b.options.seed n) (none-drawn c.args.self.now.moves_each);
      turns = omega (arith, turns);
    }

pub loop-attempt_no-preserved : goal.loop-attempt_no-preserved
loop-attempt_no-preserved g c =
    let b = base_of c.args.desk.now in
    let o = b.options in
    let n = number_of c.args.seat in
    let G = history c.make_attempt-next.result in
    let before = c.loop-attempt_no.invariant in
    let after = c.make_attempt-next.ensures in
    let had = before.turns in
    let used = after.turns in
    let seen = ap (λ (x : WorkerLoopState). x.replica.seen) c.self-in-loop-attempt_no.view_is in
    let each = c.args.self.now.moves_each in
    let same = ap (λ (x : WorkerLoopState). x.moves_each) c.self-in-loop-attempt_no.view_is ∙ before.caught_up.within.own.each_is in
    let drawn = c.drawn-attempt.ensures.drawn o.seed n (c.loop-attempt_no.attempt_no * each) (ap (λ (x : WorkerLoopState). x.stream) c.self-in-loop-attempt_no.view_is ∙ before.stream) in
    record {
      own = after.own;
      same = after.number ∙ before.same;
      caught_up = same-caught_up b _ each _ n G c.make_attempt-next.new.self same before.same after.caught_up;
      made = subst (λ w. HasMade o G w (c.loop-attempt_no.attempt_no + 1)) before.same after.made;
      drawn = subst (λ e. AreDrawn b e n G) same (subst (λ w. AreDrawn b c.self-in-loop-attempt_no.inside.moves_each w G) before.same after.drawn);
      stream = after.stream ∙ (drawn.1 ∙ ap (stream_at o.seed n) (ap (λ e. c.loop-attempt_no.attempt_no * each + e) same ∙ one-later c.loop-attempt_no.attempt_no each));
      turns = omega (arith, had, used, seen);
    }

pub returns-clause-finished : goal.returns-clause-finished
returns-clause-finished g c =
    let b = base_of c.args.desk.now in
    let n = number_of c.args.seat in
    let H = history c.loop-attempt_no.next in
    let before = c.loop-attempt_no.invariant in
    let past = subst (λ (o : Options). o.moves ≤ c.loop-attempt_no.attempt_no) (ap (λ (x : WorkerLoopState). x.options) c.self.view_is ∙ c.requires.new.own.options) c.loop-attempt_no-test.false in
    let most = subst (λ (o : Options). c.loop-attempt_no.attempt_no ≤ o.moves) (ap (λ (x : WorkerLoopState). x.options) c.self.view_is ∙ c.requires.new.own.options) c.loop-attempt_no.auto.attempt_no-end in
    let all : c.loop-attempt_no.attempt_no ≡ b.options.moves = omega (arith, past, most) in
    record { legal = before.own.legal; drawn = before.drawn; done = has_made-all b H n (subst (λ k. HasMade b.options H n k) all before.made) }
