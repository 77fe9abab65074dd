-- What a replica is once the reference to its offer is given back.
use Rattle.std.specs.Prelude.{⊤, []}
use Rattle.std.specs.Borrow.{follows_so, MutBor, Fml}
use denote.RattleType.{RattleType}
use mathlib.Core.Option.{none}
use mir.Syntax.{named}
use Rattle.ih_cellbook.specs.ReplicaState.{ReplicaState}
use Rattle.ih_snapshot.specs.contracts.replicas.Replica.{the_row}
use Rattle.ih_cellbook.specs.declared.entry_kinds.Logged.{Ghosts as LoggedGhosts}
use Rattle.ih_cellbook.specs.declared.entry_kinds.Attempted.{Ghosts as AttemptedGhosts}
use Rattle.ih_cellbook.specs.declared.entry_kinds.Offers.{Ghosts as OffersGhosts}

-- P holds of the replica then. `named 0` is the place of the replica's lifetime in the signature.
abbrev pub RestsAs : (E A O : RattleType) → LoggedGhosts E.Denot A.Denot O.Denot → AttemptedGhosts A.Denot
    → OffersGhosts O.Denot A.Denot → MutBor ReplicaState → (ReplicaState → Type 0) → Fml
RestsAs E A O e a o r P =
    let row = the_row (record { mir = named 0; lft = [] }) E A O e a o in
    follows_so row row r.ghost_name none (λ _ _. ⊤) P
