-- Pieces of a text that a loop puts one behind the other.
use Rattle.std.proofs.Common.{append_assoc}
use Rattle.std.proofs.lemmas.List.{append-nil}
use Rattle.ih_validate.proofs.Lines.{line_steps}

pub ruleset put_steps = (line_steps, append-nil, append_assoc)
