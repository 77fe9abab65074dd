use Rattle.std.proofs.Common.{◌≡◌, map}
use Rattle.serde_json.specs.View.{view}
use Rattle.ih_gen.specs.Words.{begins, in_a_row}
use Rattle.ih_gen.proofs.rows.rows.Given as goal

abbrev pub invariant-loop-n : goal.invariant-loop-n
invariant-loop-n g l = record {
  values : map view l.values.items ≡ in_a_row (g.M.Makes.thing l.kind) (g.M.Makes.words l.kind) l.n l.fn.picks;
  rest : l.picks ≡ begins (g.M.Makes.words l.kind) l.n l.fn.picks;
}
