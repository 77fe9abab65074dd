use Rattle.std.proofs.Math.ListN.{length-replicate}
use Rattle.std.proofs.Common.{false}
use Rattle.ih_validate.proofs.nurses.seen_in.Goals as goal
use Rattle.ih_tables.proofs.MarkLemmas.{none-marked}

pub loop-j-init : goal.loop-j-init
loop-j-init c = record { len = length-replicate 512 false; each = λ n. none-marked 512 n }
