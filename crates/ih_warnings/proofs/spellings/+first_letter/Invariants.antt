use Rattle.std.proofs.Common.{length}
use Rattle.ih_warnings.proofs.spellings.+first_letter.Given as goal

abbrev pub decreases-first_letter : goal.decreases-first_letter
decreases-first_letter l = length l.name.now
