use Rattle.std.proofs.Common.{◌∙◌, ap}
use Rattle.ih_template.specs.Filling.{in_template}
use Rattle.ih_template.proofs.filling.page_with.Goals as goal

pub returns : goal.returns
returns c = (rw c.new-out.ensures.items at c.in_ok-put_page.ensures) ∙ ap in_template (c.as_slice.ensures.value ∙ c.in_ok-text.ensures.text c.requires)
