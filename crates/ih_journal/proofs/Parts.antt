-- Texts that are written as far as memory goes.
use Rattle.std.proofs.Common.{List, ℕ, sym}
use Rattle.std.proofs.lemmas.List.{append-nil}
use Rattle.ih_journal.specs.Texts.{IsPart}

-- nothing was written
pub part_none : (old text : List ℕ) → IsPart old old text
part_none old text = record { len = 0; joins = sym (append-nil old) }
