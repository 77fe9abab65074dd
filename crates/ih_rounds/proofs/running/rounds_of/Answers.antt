use Rattle.std.proofs.Common.{◌≡◌, subst, arith}
use Rattle.ih_journal.specs.declared.settings.Options.{Options}
use Rattle.ih_cellbook.specs.Keeping.{base_with}
use Rattle.ih_rounds.specs.Steps.{HasRound}
use Rattle.ih_rounds.proofs.Runs.{come-none, come-more, come-all}
use Rattle.ih_rounds.proofs.running.rounds_of.Goals as goal

pub loop-round-init : goal.loop-round-init
loop-round-init g c = record {
  come = come-none (base_with c.args.inst.now.draft c.args.start.now c.args.options.now 0) (g.S.Asked.told c.args.searcher.now) c.args.journal.now.items c.in_ok-next.next
      c.in_ok-next.ensures c.requires.start;
  ready = c.requires.ready;
}

pub loop-round-preserved : goal.loop-round-preserved
loop-round-preserved g c = record {
  come = come-more (base_with c.args.inst.now.draft c.args.start.now c.args.options.now 0) c.loop-round.round (g.S.Asked.told c.args.searcher.now) (g.S.Asked.told c.loop-round.searcher)
      (g.S.Asked.told c.search_round.new.searcher) c.args.journal.now.items c.loop-round.journal.items
      c.search_round.new.journal.items c.loop-round.best c.in_ok-best.best c.loop-round.next
      c.in_ok-outcome.outcome
      c.loop-round.invariant.come
      (subst (λ (o : Options). HasRound (base_with c.args.inst.now.draft c.loop-round.next o 0) (g.S.Asked.told c.loop-round.searcher) (g.S.Asked.told c.search_round.new.searcher)
      c.loop-round.journal.items c.search_round.new.journal.items c.in_ok-outcome.outcome) c.options_in-own.ensures c.in_ok-outcome.ensures.round)
      c.in_ok-best.ensures;
  ready = c.search_round.ensures.ready;
}

pub returns : goal.returns
returns g c =
    let count = c.loop-round.auto.round-end in
    let ended = c.loop-round-test.false in
    let same : c.loop-round.round ≡ c.args.rounds = omega (arith, count, ended) in
    come-all (base_with c.args.inst.now.draft c.args.start.now c.args.options.now 0) c.loop-round.round c.args.rounds (g.S.Asked.told c.args.searcher.now)
    (g.S.Asked.told c.loop-round.searcher)
    c.args.journal.now.items c.loop-round.journal.items c.loop-round.best c.loop-round.next c.end_with.result same c.loop-round.invariant.come c.end_with.ensures
