-- A replica that is brought to a place of the history.
use Rattle.std.proofs.Common.{◌≡◌, ℕ, ◌+◌, ◌-◌, ◌≤◌, arith, List, length, take, drop}
use Rattle.std.proofs.lemmas.List.{length-append, length-drop, length-take}
use Rattle.ih_journal.specs.Tried.{Tried}
use Rattle.ih_journal.specs.Base.{Base}
use Rattle.ih_cellbook.specs.Legal.{AreLegalButDraws}
use Rattle.ih_cellbook.specs.Replicas.{IsReplicaIn, MayFollow, StandsAfter}
use Rattle.ih_cellbook.specs.ReplicaState.{ReplicaState}
use Rattle.ih_cellbook.proofs.Within.{next-follow, stands-further}

-- it has seen as many entries more as were taken over
seen-after : (r : ReplicaState) (es : List Tried) (s : ReplicaState) → MayFollow r es → StandsAfter r es s → s.seen ≡ r.seen + length es
seen-after r es s may after =
    let there = (after may.0 may.1 may.2 may.3).seen in
    let here = may.2.seen in
    let len = length-append may.1 es in
    omega (arith, there, here, len)

module _ (b : Base) (H : List Tried) (r : ReplicaState) (seen : ℕ) (stands : IsReplicaIn b H r) (behind : r.seen ≤ seen) (inside : seen ≤ length H) (legal : AreLegalButDraws b H) where
  pub may-follow : MayFollow r (take (seen - r.seen) (drop r.seen H))
  may-follow = next-follow b H r stands (seen - r.seen) legal

  module _ (s : ReplicaState) (after : StandsAfter r (take (seen - r.seen) (drop r.seen H)) s) where
    pub reached : IsReplicaIn b H s
    reached = stands-further b H r stands (seen - r.seen) s legal after

    pub reached-at : s.seen ≡ seen
    reached-at =
        let at = seen-after r (take (seen - r.seen) (drop r.seen H)) s may-follow after in
        let len = length-take (seen - r.seen) (drop r.seen H) in
        let rest = length-drop r.seen H in
        omega (arith, at, len, rest, behind, inside)
