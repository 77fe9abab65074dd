use Rattle.std.proofs.Common.{◌∙◌, ap, arith, sym}
use Rattle.ih_cellbook.specs.BookState.{BookState}
use Rattle.ih_turn.specs.Seats.{number_of}
use Rattle.ih_desk.proofs.HistoryLemmas.{index-map, legal-none}
use Rattle.std.specs.Prelude.{slice_index_or}
use Rattle.ih_desk.proofs.Makers.{made-all}
use Rattle.ih_desk.proofs.desk.DeskOver+Turn+Book+E.open.Goals as goal

pub returns-in-Ok-clause-fresh : goal.returns-in-Ok-clause-fresh
returns-in-Ok-clause-fresh g c = λ k d l.
    let fresh = c.in-Ok.ensures.fresh k d l in
    let count = c.in-Ok.ensures.numbers.0 in
    let seats = c.in-Ok.ensures.turn.1 in
    let number = sym (index-map number_of c.in-Ok.seats.items k d l) ∙ c.in-Ok.ensures.numbers.1 k (omega (arith, count)) in
    let opened = c.in-Ok.ensures.turn.0 in
    let empty = ap (λ (b : BookState). b.entries) opened ∙ c.requires.empty in
    let all = seats ∙ (c.requires.workers ∙ sym (ap (λ (b : BookState). b.base.options.workers) opened)) in (
      record {
        stands = record { opened = empty; workers = all };
        own = fresh.0;
        number = omega (arith, number, count, seats, all, l);
        legal = legal-none _ _ (fresh.1 ∙ c.requires.empty);
        made = made-all c.in-Ok.turn (slice_index_or c.in-Ok.seats.items k d) empty fresh.0;
      },
      fresh.1 ∙ c.requires.empty,
      fresh.2,
      fresh.3,
    )
