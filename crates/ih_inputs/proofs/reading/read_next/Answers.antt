use Rattle.std.proofs.Common.{ap, List, [], Option, ℕ}
use Rattle.std.specs.Prelude.{option_map, unwrap_or}
use Rattle.std.specs.Borrow.{Bor}
use Rattle.ih_inputs.specs.declared.error.InputRole.TheVariants.{Next}
use Rattle.ih_inputs.specs.Reading.{files_of, given_of}
use Rattle.ih_inputs.proofs.Causes.{instance-error}
use Rattle.ih_inputs.proofs.Unread.{next_unread}
use Rattle.ih_inputs.proofs.reading.read_next.Goals as goal

pub returns-in-Err-clause-unread : goal.returns-in-Err-clause-unread
returns-in-Err-clause-unread g c =
    next_unread (g.S.Shelf.names c.args.shelf.now) (files_of c.args.names.now) c.in-Some.name.now (record {
      given = given_of c.args._before.now;
      before = c.requires;
      named = ap (option_map (λ (t : Bor (List ℕ)). t.now)) c.in-Some.is;
    }) c.in-Err.error c.in-Err.ensures.unread

pub returns-in-Err-clause-cause : goal.returns-in-Err-clause-cause
returns-in-Err-clause-cause g c =
    instance-error g.S.Shelf (files_of c.args.names.now) _ _ Next c.in-Some.name.now
    (ap (λ (o : Option (Bor (List ℕ))). unwrap_or (option_map (λ (t : Bor (List ℕ)). t.now) o) []) c.in-Some.is) _ c.in-Err.error
    c.in-Err.ensures.unread c.in-Err.ensures.cause
