-- What a replica is once the reference to its offer is given back.
use Rattle.std.specs.Prelude.{⊤, []}
use Rattle.std.specs.Borrow.{Fml, MutBor, follows_so}
use mathlib.Core.Option.{none}
use mir.Syntax.{named}
use Rattle.ih_cellbook.specs.ReplicaState.{ReplicaState}
use Rattle.ih_chain.specs.contracts.replicas.ChainReplica.{the_row}

-- P holds of the replica then. `named 0` is the place of the replica's lifetime in the signature.
abbrev pub RestsAs : MutBor ReplicaState → (ReplicaState → Type 0) → Fml
RestsAs r P =
    let row = the_row (record { mir = named 0; lft = [] }) in
    follows_so row row r.ghost_name none (λ _ _. ⊤) P
