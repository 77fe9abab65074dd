use Rattle.std.proofs.Common.{◌≡◌, ◌∙◌, ap, sym}
use Rattle.ih_journal.specs.Base.{Base}
use Rattle.ih_desk.specs.Workers.{enough_turns}
use Rattle.ih_cellbook.specs.BookState.{BookState}
use Rattle.ih_desk.specs.Desks.{base_of}
use Rattle.ih_desk.specs.Searching.{base_given}
use Rattle.ih_desk.proofs.whole_search.open.Goals as goal

pub returns-in-Ok : goal.returns-in-Ok
returns-in-Ok g c =
    let base : base_of c.in-Ok.opened.0 ≡ base_given c.args.given.now = c.in-Ok.ensures.desk.1 ∙ ap (λ (k : BookState). k.base) c.in_ok-book.ensures in
    record {
      stands = c.in-Ok.ensures.desk.0;
      base = base;
      count = c.in-Ok.ensures.desk.2;
      many = c.in-Ok.ensures.numbers.0;
      numbers = c.in-Ok.ensures.numbers.1;
      fresh = λ k d h.
          let s = c.in-Ok.ensures.fresh k d h in
          record {
            own = s.0;
            history = s.1;
            made = s.2;
            turns = s.3 ∙ (c.turns_of.ensures ∙ sym (ap (λ (b : Base). enough_turns b.options) base));
          };
    }
