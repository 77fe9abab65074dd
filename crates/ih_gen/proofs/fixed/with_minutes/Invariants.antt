use Rattle.std.proofs.Common.{◌≡◌, map}
use Rattle.serde_json.specs.View.{view}
use Rattle.ih_tables.specs.Listed.{listed}
use Rattle.ih_gen.specs.Members.{minutes_data}
use Rattle.ih_gen.proofs.fixed.with_minutes.Given as goal

abbrev pub invariant-loop-n : goal.invariant-loop-n
invariant-loop-n l = map view l.values.items ≡ listed l.n (minutes_data l.letter l.key l.minutes l.days)
