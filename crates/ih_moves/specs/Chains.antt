-- A list of moves in room for eight, past which it is idle.
use Rattle.std.proofs.Common.{◌≡◌, ◌-◌, ◌≤◌, refl, arith, sym, ap, ◌∙◌, List, ◌++◌, length, take, drop}
use Rattle.std.specs.Prelude.{replicate}
use Rattle.std.proofs.lemmas.List.{take-append-drop, length-take-le}
use Rattle.ih_plan.specs.declared.moves.Move.{Move}
use Rattle.ih_plan.specs.declared.moves.Move.TheVariants.{Idle}
use Rattle.ih_moves.specs.declared.chains.Chain.TheInside.{Inside}

-- the rest of the room is idle
pub record IsPadded (c : Inside) : Type 0 where
  pub short : c.len ≤ 8
  pub room : length c.moves ≡ 8
  pub rest : drop c.len c.moves ≡ replicate (8 - c.len) Idle

abbrev pub moves_in : Inside → List Move
moves_in c = take c.len c.moves

abbrev pub padded : List Move → Inside
padded ms = record { moves = ms ++ replicate (8 - length ms) Idle; len = length ms }

pub padded-moves_in : (c : Inside) → IsPadded c → padded (moves_in c) ≡ c
padded-moves_in c h =
    let room = h.room in
    let short = h.short in
    let len : length (take c.len c.moves) ≡ c.len = length-take-le c.len c.moves (omega (arith, room, short)) in
    let whole : take c.len c.moves ++ replicate (8 - c.len) Idle ≡ c.moves =
    ap (λ xs. take c.len c.moves ++ xs) (sym h.rest) ∙ take-append-drop c.len c.moves in
    rw (len, whole) refl
