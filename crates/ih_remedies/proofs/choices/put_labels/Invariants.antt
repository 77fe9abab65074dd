use Rattle.std.proofs.Common.{◌≡◌, ◌++◌, take}
use Rattle.std.specs.Prelude.{flat_map, map, string_bytes}
use Rattle.serde_json.specs.View.{view}
use Rattle.ih_remedies.specs.Sentences.{next_label}
use Rattle.ih_remedies.proofs.choices.put_labels.Given as goal

abbrev pub invariant-loop-item : goal.invariant-loop-item
invariant-loop-item l =
    string_bytes l.out ≡ string_bytes l.initial.out ++ flat_map next_label (map view (take l.item-index l.items))
