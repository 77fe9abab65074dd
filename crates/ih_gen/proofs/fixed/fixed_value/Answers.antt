use Rattle.std.proofs.Common.{◌≡◌}
use Rattle.std.specs.Prelude.{codes}
use Rattle.std.proofs.lemmas.Result.{IfOk-weaker}
use Rattle.serde_json.specs.View.{view}
use Rattle.ih_gen.specs.Generated.{age_groups_data, shift_types_data, theatre_data, surgeon_data, numbered, weights_data}
use Rattle.ih_gen.specs.Members.{fixed_data, sizes_data}
use Rattle.ih_gen.proofs.Assembly.{put-known}
use Rattle.ih_gen.proofs.fixed.fixed_value.Goals as goal

pub returns : goal.returns
returns c =
    let days = c.args.days in
    let grouped = put-known (codes "age_groups") _ _ _ age_groups_data (sizes_data days) c.in_ok-grouped.ensures c.in_ok-groups.ensures c.in_ok-sized.ensures in
    let equipped = put-known (codes "operating_theaters") _ _ _ (numbered (theatre_data days) 5) _ c.in_ok-equipped.ensures c.in_ok-theatres.ensures grouped in
    let timed = put-known (codes "shift_types") _ _ _ shift_types_data _ c.in_ok-timed.ensures c.in_ok-types.ensures equipped in
    let staffed = put-known (codes "surgeons") _ _ _ (numbered (surgeon_data days) 10) _ c.in_ok-staffed.ensures c.in_ok-surgeons.ensures timed in
    IfOk-weaker c.with_member-5.result _ (λ v. view v ≡ fixed_data days)
    (λ v e. put-known (codes "weights") _ _ _ weights_data _ e c.in_ok-weights.ensures staffed) c.with_member-5.ensures
