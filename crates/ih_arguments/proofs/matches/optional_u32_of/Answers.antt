use Rattle.std.proofs.Common.{◌∙◌, arith}
use Rattle.std.specs.Str.Parse.{ParsesUnsigned, ExplainsUnsignedError, HasUnsignedDigitsIfOk}
use Rattle.clap.specs.Words.{found_of}
use Rattle.ih_arguments.proofs.Getters.{optional_number_read}
use Rattle.ih_arguments.proofs.matches.optional_u32_of.Goals as goal

pub returns : goal.returns
returns c = c.unwrap_or.ensures
    ∙ optional_number_read _ (λ bs r. ParsesUnsigned 32 10 bs r × ExplainsUnsignedError 10 bs r × HasUnsignedDigitsIfOk bs r) 32 0 4294967295
    (found_of c.args.matches.now) c.args.id.now c.get_one.result c.requires (omega arith) (λ u x g. g.0) c.get_one.ensures.none c.get_one.ensures.value
