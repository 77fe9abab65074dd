-- One more name of those that there are.
use Rattle.std.proofs.Common.{append_assoc}
use Rattle.std.proofs.lemmas.List.{append-nil, length-map, take-map, take_all}

pub ruleset label_steps = (append-nil, append_assoc)

pub ruleset few_steps = (length-map, take-map, take_all)
