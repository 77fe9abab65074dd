use Rattle.std.proofs.Common.{◌≡◌, ◌≤◌, ◌<◌, ◌∙◌, arith, inl, inr, sym, subst, ap, false, Some}
use Rattle.std.specs.Prelude.{◌⊎◌}
use Rattle.std.proofs.lemmas.Bool.{cases_lt}
use Rattle.ih_journal.specs.Attempts.{is_stale}
use Rattle.ih_journal.specs.declared.settings.Options.{Options}
use Rattle.ih_turn.specs.Seats.{history, number_of}
use Rattle.ih_cellbook.specs.Offers.{next_number}
use Rattle.ih_desk.specs.Desks.{base_of}
use Rattle.ih_desk.specs.WorkerLoopState.{WorkerLoopState}
use Rattle.ih_desk.proofs.Attempting.{drawn-attempt, next-move, next-number, next-try, same-attempted, same-caught_up}
use Rattle.ih_desk.proofs.worker_loop.WorkerLoop.make_attempt.Goals as goal
use Rattle.ih_desk.proofs.worker_loop.WorkerLoop.make_attempt.Goals.{then-not-is_stale-via-then-not-is_stale, then-not-is_stale-via-else-not-is_stale+then-again-self}

pub try_once-tried-requires-clause-next : goal.try_once-tried-requires-clause-next
try_once-tried-requires-clause-next g c =
    subst (λ w. next_number (base_of c.args.desk.now).options (history c.loop-tried.next) w ≡ Some c.args.attempt_no) (sym c.loop-tried.invariant.number)
    (next-number _ _ _ _ _ c.loop-tried.invariant.try)

pub returns-then-not-is_stale-clause-made : goal.returns-then-not-is_stale-clause-made
returns-then-not-is_stale-clause-made g c =
    let o = (base_of c.args.desk.now).options in
    let same = ap (λ (x : WorkerLoopState). x.options) c.self.view_is ∙ c.try_once-tried.ensures.caught_up.within.own.options in
    let ends : (is_stale c.try_once-tried.result.1 ≡ false) ⊎ (o.retries ≤ c.loop-tried.again) = elim c.then-not-is_stale.branch [
      | then-not-is_stale-via-then-not-is_stale w ↦ inl (sym c.is_stale.ensures ∙ w.if-not-is_stale.true)
      | then-not-is_stale-via-else-not-is_stale+then-again-self w ↦
          inr (let most = ap (λ (p : Options). p.retries) same in omega (arith, most, w.if-again-self.true))
    ] in
    next-move _ _ _ _ _ _ _ _ c.loop-tried.invariant.try (same-attempted _ _ _ _ _ _ _ _ c.loop-tried.invariant.number c.try_once-tried.ensures.attempted) ends

pub returns-then-not-is_stale-clause-drawn : goal.returns-then-not-is_stale-clause-drawn
returns-then-not-is_stale-clause-drawn g c =
    drawn-attempt (base_of c.args.desk.now) c.args.self.now.moves_each (number_of c.args.seat) _ _ _ _ _
    (same-attempted _ _ _ _ _ _ _ _ c.loop-tried.invariant.number c.try_once-tried.ensures.attempted) c.requires.drawn c.loop-tried.invariant.drawn

pub loop-tried-preserved : goal.loop-tried-preserved
loop-tried-preserved g c =
    let b = base_of c.args.desk.now in
    let n = number_of c.args.seat in
    let before = c.loop-tried.invariant in
    let after = c.try_once-tried.ensures in
    let tried = same-attempted _ _ _ _ _ _ _ _ before.number after.attempted in
    let most = ap (λ (o : Options). o.retries) (ap (λ (x : WorkerLoopState). x.options) c.self.view_is ∙ after.caught_up.within.own.options) in
    let few = before.few in
    let left : c.loop-tried.again < b.options.retries = elim (cases_lt c.loop-tried.again b.options.retries) [
      | inl below ↦ below
      | inr above ↦ absurd (c.if-again-self.false (omega (arith, most, few, above)))
    ] in
    let has = before.turns in
    let used = after.turns in
    record {
      own = after.own;
      number = after.number ∙ before.number;
      caught_up = same-caught_up b _ c.args.self.now.moves_each _ n _ c.try_once-tried.new.self before.caught_up.within.own.each_is before.number after.caught_up;
      try = next-try _ _ _ _ _ _ _ _ before.try tried (sym c.is_stale.ensures ∙ c.if-not-is_stale.false) left;
      drawn = drawn-attempt b c.args.self.now.moves_each n _ _ _ _ _ tried c.requires.drawn before.drawn;
      turns = omega (arith, has, used);
      stream = after.stream ∙ before.stream;
      few = omega (arith, left);
    }
