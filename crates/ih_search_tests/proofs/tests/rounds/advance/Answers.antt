use Rattle.std.proofs.Common.{◌≤◌, ◌∙◌, ap, drop, length, subst, sym, take}
use Rattle.ih_cellbook.specs.BufferState.{BufferState}
use Rattle.ih_cellbook.specs.Replicas.{MayFollow, StandsAfter}
use Rattle.ih_cellbook.proofs.Within.{next-follow, seen-within, stands-further}
use Rattle.ih_search_tests.proofs.tests.rounds.advance.Goals as goal

pub copy_since-requires : goal.copy_since-requires
copy_since-requires c =
    let v = c.args.book.now in
    subst (λ k. k ≤ length v.entries) (sym c.seen.ensures) (seen-within v.base v.entries c.args.replica.now c.requires.replica)

pub advance-requires : goal.advance-requires
advance-requires c =
    let v = c.args.book.now in
    let r = c.args.replica.now in
    let shown = ap (λ (x : BufferState). x.entries) c.copy_since.ensures.copied ∙ ap (λ k. take 256 (drop k v.entries)) c.seen.ensures in
    record { follow = subst (MayFollow r) (sym (c.entries-2.ensures ∙ shown)) (next-follow v.base v.entries r c.requires.replica 256 c.entries.ensures.legal) }

pub returns : goal.returns
returns c =
    let v = c.args.book.now in
    let r = c.args.replica.now in
    let s = c.advance.new.self in
    let shown = ap (λ (x : BufferState). x.entries) c.copy_since.ensures.copied ∙ ap (λ k. take 256 (drop k v.entries)) c.seen.ensures in
    let later = subst (λ es. StandsAfter r es s) (c.entries-2.ensures ∙ shown) c.advance.ensures.replica in
    stands-further v.base v.entries r c.requires.replica 256 s c.entries.ensures.legal later
