use Rattle.std.proofs.Common.{◌<◌, ◌≤◌, ◌∙◌, arith, length, sym, subst}
use Rattle.ih_turn.specs.Seats.{history, number_of, turns_left}
use Rattle.ih_cellbook.specs.Replicas.{IsReplicaIn, MayFollowUpTo}
use Rattle.ih_cellbook.specs.News.{TellsOf}
use Rattle.ih_cellbook.proofs.Within.{seen-within, told-follow}
use Rattle.ih_desk.specs.Desks.{base_of}
use Rattle.ih_desk.specs.WorkerLoopState.{WorkerLoopState}
use Rattle.ih_desk.specs.WorkerLoops.{IsLoopOf, IsWithin}
use Rattle.ih_desk.proofs.CatchingUp.{has-turn, stays, taken-over}
use Rattle.ih_desk.proofs.worker_loop.WorkerLoop.look.Given.{Over}
use Rattle.ih_desk.proofs.worker_loop.WorkerLoop.look.Goals as goal

pub look_for_news-seat-requires : goal.look_for_news-seat-requires
look_for_news-seat-requires g c =
    let b = base_of c.args.desk.now in
    let H = history c.args.seat in
    let r = g.C.Replicates.copied c.self.inside.replica in
    let within = subst (λ (x : WorkerLoopState). IsWithin b c.args.self.now.moves_each (number_of c.args.seat) H x) (sym c.self.view_is) c.requires.within in
    record {
      may = record {
        own = c.requires.own;
        left = has-turn b H c.args.self.now.replica (turns_left c.args.seat) c.requires.within.replica c.requires.turns;
        within = subst (λ n. n ≤ length H) (sym c.seen.ensures) (seen-within b H r within.replica);
      };
    }

pub follow-requires : goal.follow-requires
follow-requires g c =
    let b = base_of c.args.desk.now in
    let H = history c.look_for_news-seat.result in
    let r = g.C.Replicates.copied c.self.inside.replica in
    let within = subst (λ (x : WorkerLoopState). IsWithin b c.args.self.now.moves_each (number_of c.args.seat) (history c.args.seat) x) (sym c.self.view_is) c.requires.within in
    let n = c.look_for_news-seat.new.news in
    let told = subst (λ k. TellsOf H k n) c.seen.ensures c.look_for_news-seat.ensures.told in
    let stands = stays b (number_of c.args.seat) (history c.args.seat) H r c.look_for_news-seat.ensures.looked.goes_on within.replica in
    subst (λ es. MayFollowUpTo r es c.until.result) (sym c.accepted.ensures)
    (subst (MayFollowUpTo r n.accepted) (sym c.until.ensures) (told-follow b H r stands n c.look_for_news-seat.ensures.looked.own.legal told))

-- the replica takes over what the look told
taken : (g : Over) (c : goal.After-follow g)
    → IsReplicaIn (base_of c.args.desk.now) (history c.look_for_news-seat.result) (g.C.Replicates.copied c.follow.new.self)
    × ((g.C.Replicates.copied c.self.inside.replica).seen < length (history c.args.seat)
    → (g.C.Replicates.copied c.self.inside.replica).seen < (g.C.Replicates.copied c.follow.new.self).seen)
taken g c =
    let b = base_of c.args.desk.now in
    let H = history c.args.seat in
    let r = g.C.Replicates.copied c.self.inside.replica in
    let within = subst (λ (x : WorkerLoopState). IsWithin b c.args.self.now.moves_each (number_of c.args.seat) H x) (sym c.self.view_is) c.requires.within in
    let look = c.look_for_news-seat.ensures in
    taken-over b (number_of c.args.seat) H (history c.look_for_news-seat.result) r c.look_for_news-seat.new.news _ c.until.result _ (g.C.Replicates.copied c.follow.new.self)
    c.seen.ensures c.accepted.ensures c.until.ensures within.replica look.looked.goes_on look.looked.own.legal look.told c.follow.ensures.replica

pub returns-clause-within : goal.returns-clause-within
returns-clause-within g c =
    let own = subst (IsLoopOf (base_of c.args.desk.now) c.args.self.now.moves_each (number_of c.args.seat)) (sym c.self.view_is) c.requires.within.own in
    record {
      own = record { instance = own.instance; options = own.options; each_is = own.each_is; worker = c.follow.ensures.worker ∙ own.worker };
      replica = (taken g c).0;
    }

pub returns-clause-further : goal.returns-clause-further
returns-clause-further g c =
    let new = subst (λ (x : WorkerLoopState). x.replica.seen < length (history c.args.seat)) (sym c.self.view_is) c.requires.new in
    subst (λ (x : WorkerLoopState). x.replica.seen < (g.C.Replicates.copied c.follow.new.self).seen) c.self.view_is ((taken g c).1 new)

pub returns-clause-turns : goal.returns-clause-turns
returns-clause-turns g c =
    let more = returns-clause-further g c in
    let used = c.look_for_news-seat.ensures.looked.left in
    omega (arith, more, used)
