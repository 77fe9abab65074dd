use Rattle.std.proofs.Common.{arith}
use Rattle.std.specs.Str.Parse.{ExplainsUnsignedError, HasUnsignedDigitsIfOk, ParsesUnsigned}
use Rattle.clap.specs.Words.{found_of}
use Rattle.ih_arguments.proofs.Getters.{number_if_read}
use Rattle.ih_arguments.proofs.matches.any_number_if_given.Goals as goal

pub returns : goal.returns
returns c =
    number_if_read _ (λ bs r. ParsesUnsigned 64 10 bs r × ExplainsUnsignedError 10 bs r × HasUnsignedDigitsIfOk bs r) 64 0 18446744073709551615
    (found_of c.args.matches.now) c.args.id.now c.get_one.result c.requires (omega arith) (λ u x g. g.0) c.get_one.ensures.none c.get_one.ensures.value
