use Rattle.std.proofs.Common.{arith, ◌≡◌, ◌+◌, length}
use Rattle.ih_journal.specs.Grammar.{again_kind}
use Rattle.ih_journal.proofs.LineReading.{kinds_behind}
use Rattle.ih_journal.proofs.LineTexts.{line_read}
use Rattle.ih_journal.proofs.parse.Line.entry.Goals as goal

pub piece-requires-4-clause-wanted : goal.piece-requires-4-clause-wanted
piece-requires-4-clause-wanted c = rw c.in_ok-again.ensures.index (kinds_behind c.args.self.now.options.now).seen

pub piece-requires-5-clause-wanted : goal.piece-requires-5-clause-wanted
piece-requires-5-clause-wanted c =
    let here : c.in_ok-seen.next.index ≡ 4 + length (again_kind c.args.self.now.options.now.retries) = omega (arith, c.in_ok-seen.ensures.ok.index, c.in_ok-again.ensures.index) in
    rw here (kinds_behind c.args.self.now.options.now).move

pub piece-requires-6-clause-wanted : goal.piece-requires-6-clause-wanted
piece-requires-6-clause-wanted c =
    let here : c.in_ok-mv.next.index ≡ 5 + length (again_kind c.args.self.now.options.now.retries) =
    omega (arith, c.in_ok-mv.ensures.ok.index, c.in_ok-seen.ensures.ok.index, c.in_ok-again.ensures.index) in
    rw here (kinds_behind c.args.self.now.options.now).price

pub piece-requires-7-clause-wanted : goal.piece-requires-7-clause-wanted
piece-requires-7-clause-wanted c =
    let here : c.in_ok-price.next.index ≡ 6 + length (again_kind c.args.self.now.options.now.retries) =
    omega (arith, c.in_ok-price.ensures.ok.index, c.in_ok-mv.ensures.ok.index, c.in_ok-seen.ensures.ok.index, c.in_ok-again.ensures.index) in
    rw here (kinds_behind c.args.self.now.options.now).verdict

pub returns-clause-ok : goal.returns-clause-ok
returns-clause-ok c = record {
  place = c.in_ok-place.ensures.inside;
  entry = record {
    worker = c.in_ok-worker.ensures.inside;
    number = c.in_ok-number.ensures.inside;
    again = c.in_ok-again.ensures.short;
    once = c.in_ok-again.ensures.once;
    seen = c.in_ok-seen.ensures.inside;
    move = c.in_ok-mv.ensures.inside;
    price = c.in_ok-price.ensures.inside;
    verdict = c.in_ok-verdict.ensures.inside;
  };
  text = line_read c.args.self.now.options.now c.args.self.now.bytes.now c.in_ok-place.place
      (record {
        worker = c.in_ok-worker.worker;
        number = c.in_ok-number.number;
        again = c.in_ok-again.again;
        seen = c.in_ok-seen.seen;
        mv = c.in_ok-mv.mv;
        price = c.in_ok-price.price;
        verdict = c.in_ok-verdict.verdict;
      })
      _ _ _ _ _ _ _ _ c.in_ok-place.ensures.ok.next c.in_ok-worker.ensures.ok.next c.in_ok-number.ensures.ok.next
      c.in_ok-again.ensures.ok c.in_ok-seen.ensures.ok.next c.in_ok-mv.ensures.ok.next c.in_ok-price.ensures.ok.next c.in_ok-verdict.ensures.ok.next
      c.in_ok-end.ensures.ok;
}
