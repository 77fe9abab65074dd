use Rattle.std.proofs.Common.{◌∙◌, sym, ap}
use Rattle.serde_json.specs.Data.{object}
use Rattle.serde_json.specs.View.{view}
use Rattle.serde_json.proofs.Views.{view-Object}
use Rattle.ih_gen.specs.Members.{with_member}
use Rattle.ih_gen.proofs.members.with_member.Goals as goal

pub returns-in_ok-put-in-Object : goal.returns-in_ok-put-in-Object
returns-in_ok-put-in-Object c =
    view-Object _
    ∙ (ap object c.in_ok-put-in-Object.ensures.ok
    ∙ ap (with_member c.args.key.now (view c.args.member)) (sym (ap view c.in-Object.is ∙ view-Object c.in-Object.members)))
