use Rattle.std.proofs.Common.{◌≡◌, ℕ, ◌-◌, ◌∙◌, sym, ap, subst, List, take, drop}
use Rattle.ih_journal.specs.declared.entries.Entry.{Entry}
use Rattle.ih_journal.specs.Tried.{Tried, tried, tries}
use Rattle.ih_journal.proofs.Mapped.{map-drop, map-take}
use Rattle.ih_cellbook.specs.Replicas.{MayFollow, StandsAfter}
use Rattle.ih_replay.proofs.Reaching.{may-follow, reached, reached-at}
use Rattle.ih_replay.proofs.taking.reach.Goals as goal

-- what the entries of a part stand for
part-of : (es : List Entry) (H : List Tried) (seen k n : ℕ) → tries es ≡ H → k ≡ n → tries (take (seen - k) (drop k es)) ≡ take (seen - n) (drop n H)
part-of es H seen k n is same =
    map-take tried (seen - k) (drop k es)
    ∙ (ap (take (seen - k)) (map-drop tried k es) ∙ (ap (λ fs. take (seen - k) (drop k fs)) is ∙ ap (λ m. take (seen - m) (drop m H)) same))

pub advance-requires : goal.advance-requires
advance-requires c =
    let v = c.args.book.now in
    let r = c.go_back.new.replica in
    let part = part-of c.entries.result.now v.entries c.args.seen c.seen.result r.seen c.entries.ensures.entries c.seen.ensures in
    record { follow = subst (MayFollow r) (sym part) (may-follow v.base v.entries r c.args.seen c.go_back.ensures.replica c.go_back.ensures.seen c.requires.seen c.entries.ensures.legal) }

pub returns-clause-replica : goal.returns-clause-replica
returns-clause-replica c =
    let v = c.args.book.now in
    let r = c.go_back.new.replica in
    let part = part-of c.entries.result.now v.entries c.args.seen c.seen.result r.seen c.entries.ensures.entries c.seen.ensures in
    reached v.base v.entries r c.args.seen c.go_back.ensures.replica c.go_back.ensures.seen c.requires.seen c.entries.ensures.legal c.advance.new.self
    (subst (λ es. StandsAfter r es c.advance.new.self) part c.advance.ensures.replica)

pub returns-clause-seen : goal.returns-clause-seen
returns-clause-seen c =
    let v = c.args.book.now in
    let r = c.go_back.new.replica in
    let part = part-of c.entries.result.now v.entries c.args.seen c.seen.result r.seen c.entries.ensures.entries c.seen.ensures in
    reached-at v.base v.entries r c.args.seen c.go_back.ensures.replica c.go_back.ensures.seen c.requires.seen c.entries.ensures.legal c.advance.new.self
    (subst (λ es. StandsAfter r es c.advance.new.self) part c.advance.ensures.replica)
