use Rattle.std.proofs.Common.{◌∙◌, ap, refl}
use Rattle.std.specs.Borrow.{Bor}
use Rattle.clap.specs.Words.{Text}
use Rattle.ih_arguments.proofs.Getters.{text_or}
use Rattle.ih_arguments.proofs.matches.text_of.Goals as goal

pub returns : goal.returns
returns c = ap (λ (b : Bor Text). b.now) c.unwrap_or.ensures ∙ text_or c.optional_text_of.result _ _ c.optional_text_of.ensures refl
