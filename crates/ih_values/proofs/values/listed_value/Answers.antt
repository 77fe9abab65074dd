use Rattle.std.proofs.Common.{◌∙◌, ap}
use Rattle.serde_json.proofs.Views.{view-Array}
use Rattle.ih_solution.specs.Solution.{list_data}
use Rattle.ih_values.proofs.values.listed_value.Goals as goal

pub returns : goal.returns
returns g c = λ f h. view-Array _ ∙ ap list_data (c.in_ok-listed_values.ensures f h)
