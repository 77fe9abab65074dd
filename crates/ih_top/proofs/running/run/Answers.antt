use Rattle.std.proofs.Common.{refl, subst, sym}
use Rattle.std.specs.Prelude.{map, string_bytes}
use Rattle.ih_top.specs.Below.Arguments.{call_of, command_call}
use Rattle.ih_words.proofs.CallNames.{names-apart}
use Rattle.ih_endings.proofs.Files.{told-same}
use Rattle.ih_top.specs.Ends.{Leaves}
use Rattle.ih_top.proofs.CommandEnds.{memory-leaves, untouched, usage-ended}
use Rattle.ih_top.proofs.Completeness.{complete}
use Rattle.ih_top.proofs.running.run.Goals as goal

pub perform-requires-clause-differ : goal.perform-requires-clause-differ
perform-requires-clause-differ g c κs within = names-apart (map string_bytes c.args.words.now) (command_call c.in-Ok.command) c.in-Ok.ensures.ok

pub returns-in-Ok-clause-leaves : goal.returns-in-Ok-clause-leaves
returns-in-Ok-clause-leaves g c = rw c.in-Ok.ensures.ok c.perform.ensures.ends

pub returns-in-Ok-clause-untouched : goal.returns-in-Ok-clause-untouched
returns-in-Ok-clause-untouched g c = rw c.in-Ok.ensures.ok c.perform.ensures.untouched

pub returns-in-Ok-clause-complete : goal.returns-in-Ok-clause-complete
returns-in-Ok-clause-complete g c = rw c.in-Ok.ensures.ok
    (complete (command_call c.in-Ok.command) _ _ _ _ _ _ _ _ _ _ _ c.perform.result c.perform.ensures.ends c.perform.ensures.cause)

pub returns-in-Err-OutOfMemory-clause-leaves : goal.returns-in-Err-OutOfMemory-clause-leaves
returns-in-Err-OutOfMemory-clause-leaves g c =
    subst (Leaves (call_of (map string_bytes c.args.words.now)) _ _ _ _ _) (sym c.conclude_memory.ensures.status)
    (memory-leaves (call_of (map string_bytes c.args.words.now)) _ _ _ _ tt c.conclude_memory.ensures.said)

pub returns-in-Err-OutOfMemory-clause-untouched : goal.returns-in-Err-OutOfMemory-clause-untouched
returns-in-Err-OutOfMemory-clause-untouched g c = untouched (call_of (map string_bytes c.args.words.now)) c.args.shelf.now

pub returns-in-Err-Unlawful-clause-leaves : goal.returns-in-Err-Unlawful-clause-leaves
returns-in-Err-Unlawful-clause-leaves g c = rw (c.in-Err-Unlawful.ensures.unlawful c.in-Err-Unlawful.field-0-is)
    (told-same _ _ refl, usage-ended _ _ _ c.usage.result c.conclude.result tt tt c.usage.ensures c.conclude.ensures.said)

pub returns-in-Err-Unlawful-clause-untouched : goal.returns-in-Err-Unlawful-clause-untouched
returns-in-Err-Unlawful-clause-untouched g c = untouched (call_of (map string_bytes c.args.words.now)) c.args.shelf.now
