use Rattle.std.proofs.Common.{sym, subst}
use Rattle.ih_cellbook.specs.Replicas.{MayFollowUpTo, StandsUpTo}
use Rattle.ih_cellbook.specs.News.{TellsOf}
use Rattle.ih_cellbook.proofs.Within.{told-follow, told-further}
use Rattle.ih_search_tests.proofs.tests.rounds.catch_up.Goals as goal

pub follow-requires : goal.follow-requires
follow-requires c =
    let v = c.args.book.now in
    let r = c.args.replica.now in
    let n = c.news_since.new.news in
    let told = subst (λ k. TellsOf v.entries k n) c.seen.ensures c.news_since.ensures in
    record {
      follow = subst (λ es. MayFollowUpTo r es c.until.result) (sym c.accepted.ensures)
          (subst (MayFollowUpTo r n.accepted) (sym c.until.ensures) (told-follow v.base v.entries r c.requires.replica n c.entries.ensures.legal told));
    }

pub returns : goal.returns
returns c =
    let v = c.args.book.now in
    let r = c.args.replica.now in
    let s = c.follow.new.self in
    let n = c.news_since.new.news in
    let told = subst (λ k. TellsOf v.entries k n) c.seen.ensures c.news_since.ensures in
    let told_by = subst (λ es. StandsUpTo r es c.until.result s) c.accepted.ensures c.follow.ensures.replica in
    let later = subst (λ k. StandsUpTo r n.accepted k s) c.until.ensures told_by in
    told-further v.base v.entries r c.requires.replica n c.entries.ensures.legal told s later
