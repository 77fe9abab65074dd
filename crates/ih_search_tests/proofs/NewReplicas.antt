-- New replicas beside a history, and what a look at one shows.
use Rattle.std.proofs.Common.{◌≡◌, ◌∙◌, arith, ap, sym, subst, List, [], length, take, drop}
use Rattle.std.proofs.lemmas.List.{length-take, take_all}
use Rattle.ih_journal.specs.Base.{Base}
use Rattle.ih_journal.specs.Tried.{Tried}
use Rattle.ih_cellbook.specs.Replicas.{IsReplicaIn, IsReplicaOf}
use Rattle.ih_cellbook.specs.ReplicaState.{ReplicaState}

-- a copy that is as long as the history is the history
pub whole-is : (H G : List Tried) → G ≡ take 256 (drop 0 H) → length G ≡ length H → G ≡ H
whole-is H G copied same =
    let part = length-take 256 H in
    let long : length G ≡ length (take 256 H) = ap length copied in
    copied ∙ take_all 256 H (omega (arith, part, long, same))

-- a new replica stands for the first entries of any history, of which it has seen none
pub new-in : (b c : Base) (H : List Tried) (r : ReplicaState) → c ≡ b → IsReplicaOf b [] r → IsReplicaIn c H r
new-in b c H r same stands =
    let none : take r.seen H ≡ [] = ap (λ n. take n H) stands.seen in
    subst (λ (a : Base). IsReplicaOf a (take r.seen H) r) (sym same) (subst (λ es. IsReplicaOf b es r) (sym none) stands)
