use Rattle.std.proofs.Common.{◌≡◌, ◌≤◌, ◌<◌, ◌∙◌, ap, arith, map, refl, sym, subst, length}
use Rattle.ih_turn.specs.Seats.{history, number_of}
use Rattle.ih_cellbook.specs.Offers.{HasSeenOwn}
use Rattle.ih_cellbook.specs.Replicas.{MayFollowUpTo, StandsUpTo}
use Rattle.ih_cellbook.proofs.Within.{told-follow, told-further}
use Rattle.ih_desk.specs.Desks.{base_of}
use Rattle.ih_turn.specs.Rule.{GoesOn}
use Rattle.ih_desk.specs.WorkerLoopState.{WorkerLoopState}
use Rattle.ih_desk.specs.WorkerLoops.{IsToldOf, IsWithin}
use Rattle.ih_desk.proofs.Attempting.{same-within}
use Rattle.ih_desk.proofs.CatchingUp.{further, goes-length, goes_on-further, goes_on-none, own-all, own-goes_on, own-later}
use Rattle.ih_desk.proofs.worker_loop.WorkerLoop.catch_up.Goals as goal

pub follow-requires : goal.follow-requires
follow-requires g c =
    let b = base_of c.args.desk.now in
    let H = history c.args.seat in
    let r = g.C.Replicates.copied c.self.inside.replica in
    let n = c.self.inside.news in
    let within = subst (λ (x : WorkerLoopState). IsWithin b c.args.self.now.moves_each (number_of c.args.seat) H x) (sym c.self.view_is) c.requires.within in
    let told = subst (λ (x : WorkerLoopState). IsToldOf H x) (sym c.self.view_is) c.requires.told in
    subst (λ es. MayFollowUpTo r es c.until.result) (sym c.accepted.ensures)
    (subst (MayFollowUpTo r n.accepted) (sym c.until.ensures) (told-follow b H r within.replica n c.requires.own.legal told))

pub loop-self-init : goal.loop-self-init
loop-self-init g c =
    let b = base_of c.args.desk.now in
    let w = number_of c.args.seat in
    let H = history c.args.seat in
    let r = g.C.Replicates.copied c.self.inside.replica in
    let s = g.C.Replicates.copied c.follow.new.self in
    let n = c.self.inside.news in
    let within = subst (λ (x : WorkerLoopState). IsWithin b c.args.self.now.moves_each w H x) (sym c.self.view_is) c.requires.within in
    let told = subst (λ (x : WorkerLoopState). IsToldOf H x) (sym c.self.view_is) c.requires.told in
    let goal-is : c.front-goal.result ≡ length H = c.front-goal.ensures ∙ told.front in
    let later = subst (λ es. StandsUpTo r es n.until s) c.accepted.ensures
    (subst (λ k. StandsUpTo r (map g.C.Entry.Logged.tried c.accepted.result.now) k s) c.until.ensures c.follow.ensures.replica) in
    let new = subst (λ (x : WorkerLoopState). x.replica.seen < length H) (sym c.self.view_is) c.requires.new in
    let more : r.seen < s.seen = further b H r n s within.replica c.requires.own.legal told later new in
    let before = ap (λ (x : WorkerLoopState). x.replica.seen) c.self.view_is in
    let own = within.own in
    record {
      own = c.requires.own;
      number = refl;
      within = record {
        own = record { instance = own.instance; options = own.options; each_is = own.each_is; worker = c.follow.ensures.worker ∙ own.worker };
        replica = told-further b H r within.replica n c.requires.own.legal told s later;
      };
      goes = goes_on-none w H;
      seen = subst (HasSeenOwn H w) (sym goal-is) (own-all w H);
      reached = omega (arith, goal-is);
      turns = omega (arith, more, before);
      stream = ap (λ (x : WorkerLoopState). x.stream) c.self.view_is;
    }

pub loop-self-preserved : goal.loop-self-preserved
loop-self-preserved g c =
    let before = c.loop-self.invariant in
    let look = c.look-next.ensures in
    let n = number_of c.args.seat in
    let G = history c.loop-self.next in
    let H = history c.look-next.result in
    let goes = subst (λ w. GoesOn (λ e. e.worker) w G H) before.number look.history in
    let longer = goes-length n G H goes in
    let reached = before.reached in
    let used = look.turns in
    let had = before.turns in
    let same = ap (λ (x : WorkerLoopState). x.replica.seen) c.self-in-loop-self.view_is in
    record {
      own = look.own;
      number = look.number ∙ before.number;
      within = same-within (base_of c.args.desk.now) _ c.args.self.now.moves_each _ n H c.look-next.new.self before.within.own.each_is before.number look.within;
      goes = goes_on-further n (history c.args.seat) G H before.goes goes;
      seen = own-goes_on n c.front-goal.result G H goes before.seen;
      reached = omega (arith, longer, reached);
      turns = omega (arith, used, had, same);
      stream = look.stream ∙ before.stream;
    }

pub returns-clause-caught_up : goal.returns-clause-caught_up
returns-clause-caught_up g c =
    let before = c.loop-self.invariant in
    let same = c.seen.ensures ∙ ap (λ (x : WorkerLoopState). x.replica.seen) c.self-in-loop-self.view_is in
    let past : c.front-goal.result ≤ c.loop-self.self.replica.seen = subst (λ k. c.front-goal.result ≤ k) same c.loop-self-test.false in
    record { within = before.within; seen = own-later (number_of c.args.seat) c.front-goal.result c.loop-self.self.replica.seen (history c.loop-self.next) before.seen past }
