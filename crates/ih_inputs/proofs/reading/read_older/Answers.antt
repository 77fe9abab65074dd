use Rattle.std.proofs.Common.{ap, List, [], Option, ℕ}
use Rattle.std.specs.Prelude.{option_map, unwrap_or}
use Rattle.std.specs.Borrow.{Bor}
use Rattle.ih_inputs.specs.declared.error.InputRole.TheVariants.{Older}
use Rattle.ih_inputs.specs.Reading.{files_of}
use Rattle.ih_inputs.proofs.Causes.{plan-error}
use Rattle.ih_inputs.proofs.Unread.{older_unread}
use Rattle.ih_inputs.proofs.reading.read_older.Goals as goal

pub returns-in-Err-clause-unread : goal.returns-in-Err-clause-unread
returns-in-Err-clause-unread g c =
    older_unread (g.S.Shelf.names c.args.shelf.now) (files_of c.args.names.now) c.args.inst.now.draft c.in-Some.name.now
    (record { plan = c.args._plan.now; inputs = c.requires; named = ap (option_map (λ (t : Bor (List ℕ)). t.now)) c.in-Some.is }) c.in-Err.error
    c.in-Err.ensures.unread

pub returns-in-Err-clause-cause : goal.returns-in-Err-clause-cause
returns-in-Err-clause-cause g c =
    plan-error g.S.Shelf (files_of c.args.names.now) _ _ Older c.in-Some.name.now
    (ap (λ (o : Option (Bor (List ℕ))). unwrap_or (option_map (λ (t : Bor (List ℕ)). t.now) o) []) c.in-Some.is) _ _ c.in-Err.error
    c.in-Err.ensures.unread c.in-Err.ensures.cause
