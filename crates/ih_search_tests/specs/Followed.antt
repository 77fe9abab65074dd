-- Seats beside a replica.
use Rattle.std.specs.Prelude.{◌≡◌}
use Rattle.ih_turn.specs.Seats.{history, number_of}
use Rattle.ih_cellbook.specs.Replicas.{IsReplicaIn}
use Rattle.ih_cellbook.specs.ReplicaState.{ReplicaState}
use Rattle.ih_desk.specs.Desks.{Desk, DeskSeat, IsSeatAt, base_of}

-- the seat is one of the desk's, and the replica stands for the first entries of those that it has seen
pub record IsFollowed (desk : Desk) (seat : DeskSeat) (r : ReplicaState) : Type 0 where
  pub own : IsSeatAt desk seat
  pub replica : IsReplicaIn (base_of desk) (history seat) r

-- a seat with the same number is followed so afterwards
pub record StaysFollowed (desk : Desk) (before after : DeskSeat) (r : ReplicaState) : Type 0 where
  pub followed : IsFollowed desk after r
  pub number : number_of after ≡ number_of before
