use Rattle.std.proofs.Common.{◌≡◌, ℕ, zero, suc, refl, ◌++◌, ◌∷◌, [], Some}
use Rattle.std.specs.Prelude.{slice_get}
use Rattle.ih_journal.specs.Grammar.{again_kind, count_kind, move_kind, price_kind, verdict_kind}
use Rattle.ih_journal.proofs.parse.Line.again.Goals as goal

-- the field after the number is a count, the try or what was seen
fourth : (retries : ℕ) → slice_get (count_kind ∷ count_kind ∷ count_kind ∷ (again_kind retries ++ count_kind ∷ move_kind ∷ price_kind ∷ verdict_kind ∷ [])) 3 ≡ Some count_kind
fourth zero = refl
fourth (suc retries) = refl

pub piece-requires-clause-wanted : goal.piece-requires-clause-wanted
piece-requires-clause-wanted c = rw c.requires.third (fourth c.args.self.now.options.now.retries)
