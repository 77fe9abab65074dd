use Rattle.std.proofs.Common.{◌≡◌, ◌<◌, ℕ, map}
use Rattle.std.specs.Prelude.{IfOk}
use Rattle.serde_json.specs.Data.{Data}
use Rattle.serde_json.specs.View.{view}
use Rattle.ih_tables.specs.Listed.{listed}
use Rattle.ih_solution.proofs.listed.listed_values.Given as goal

abbrev pub invariant-loop-n : goal.invariant-loop-n
invariant-loop-n g l = (f : ℕ → Data) → ((n : ℕ) (r : _) → n < l.count → goal.F-post g l.value n r → IfOk r (λ v. view v ≡ f n)) → map view l.values.items ≡ listed l.n f
