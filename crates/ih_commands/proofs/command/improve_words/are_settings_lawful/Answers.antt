use Rattle.std.proofs.Common.{◌∙◌, ◌≤◌, sym}
use Rattle.std.specs.Prelude.{nat_le}
use Rattle.std.proofs.lemmas.Bool.{and_parts, leb-true}
use Rattle.ih_optimizer.specs.declared.pacing.TheConstants.{MAX_CALL_ATTEMPTS}
use Rattle.ih_commands.proofs.command.improve_words.are_settings_lawful.Goals as goal

pub returns-then-are_few-clause-lawful : goal.returns-then-are_few-clause-lawful
returns-then-are_few-clause-lawful c = λ falls.
    let attempts = c.attempts_of-attempts.result in
    let works = sym c.are_few.ensures ∙ c.if-are_few.true in
    let few : attempts ≤ MAX_CALL_ATTEMPTS = leb-true attempts MAX_CALL_ATTEMPTS (and_parts (nat_le attempts MAX_CALL_ATTEMPTS) _ works).0 in
    c.requires (rw c.attempts_of-attempts.ensures at few) (leb-true _ _ (sym c.is_falling.ensures ∙ falls))
