use Rattle.std.proofs.Common.{arith}
use Rattle.clap.specs.Words.{found_of}
use Rattle.ih_arguments.proofs.Getters.{unsigned_read}
use Rattle.ih_arguments.proofs.matches.u64_of.Goals as goal

pub unwrap-requires : goal.unwrap-requires
unwrap-requires c = (unsigned_read 64 18446744073709551615 (found_of c.args.matches.now) c.args.id.now c.get_one.result c.requires (omega arith) c.get_one.ensures.value).0

pub returns : goal.returns
returns c = (unsigned_read 64 18446744073709551615 (found_of c.args.matches.now) c.args.id.now c.get_one.result c.requires (omega arith) c.get_one.ensures.value).1
    c.unwrap.result c.unwrap.ensures
