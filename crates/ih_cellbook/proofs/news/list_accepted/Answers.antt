use Rattle.std.proofs.Common.{◌∙◌, ◌++◌, ◌∷◌, [], List, ap, arith, map, sym}
use Rattle.std.proofs.Math.ListN.{get_or-map}
use Rattle.std.proofs.lemmas.List.{length-map}
use Rattle.ih_journal.specs.Tried.{Tried}
use Rattle.ih_cellbook.specs.News.{accepted_between, accepted_of}
use Rattle.ih_cellbook.proofs.NewsLemmas.{told-more}
use Rattle.ih_cellbook.proofs.news.list_accepted.Goals as goal

pub loop-until-preserved : goal.loop-until-preserved
loop-until-preserved g c =
    let before = c.loop-until.invariant in
    let es = c.args.entries.now in
    let until = c.loop-until.until in
    let from = c.args.from in
    let e = c.index-entries-until.result in
    let told = accepted_between (map g.E.Logged.tried es) from until in
    let since = before.since in
    let few = before.few in
    let below = c.loop-until-test.true in
    let room = c.if-len-lt-MOST_COPIED.true in
    let listed = c.len.ensures in
    let front = c.requires.front in
    let len = length-map es g.E.Logged.tried in
    let one = c.put_accepted.ensures.count in
    let same = ap g.E.Logged.tried c.index-entries-until.is ∙ sym (get_or-map g.E.Logged.tried es until e) in
    record {
      since = omega (arith, since);
      within = omega (arith, below);
      listed = c.put_accepted.ensures.items
          ∙ ap (λ (xs : List Tried). xs ++ accepted_of (g.E.Logged.tried e ∷ [])) before.listed
          ∙ ap (λ (t : Tried). told ++ accepted_of (t ∷ [])) same
          ∙ sym (told-more (map g.E.Logged.tried es) from until (g.E.Logged.tried e) since (omega (arith, below, front, len)));
      few = omega (arith, few, room, listed, one);
      room = c.put_accepted.ensures.room ∙ before.room;
    }
