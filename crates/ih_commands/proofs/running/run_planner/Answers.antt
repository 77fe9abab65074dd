use Rattle.std.proofs.Common.{inr, refl, subst, sym}
use Rattle.std.specs.Prelude.{map, string_bytes}
use Rattle.ih_commands.specs.Below.Arguments.{IsExplained}
use Rattle.ih_commands.specs.Below.Endings.{Answer, Done, Usage}
use Rattle.ih_endings.proofs.Files.{told-same}
use Rattle.ih_endings.proofs.Saying.{ended}
use Rattle.ih_commands.specs.Ends.{Leaves, NoCallEnds}
use Rattle.ih_commands.specs.Calls.{app_for, call_of, command_call}
use Rattle.ih_commands.proofs.Calls.{complete, memory-complete, memory-leaves, no_call-answerable, one-few, untouched}
use Rattle.ih_commands.proofs.running.run_planner.Goals as goal

pub returns-in-Ok-clause-leaves : goal.returns-in-Ok-clause-leaves
returns-in-Ok-clause-leaves g c = rw c.in-Ok.ensures.ok c.perform.ensures.ends

pub returns-in-Ok-clause-untouched : goal.returns-in-Ok-clause-untouched
returns-in-Ok-clause-untouched g c = rw c.in-Ok.ensures.ok tt

pub returns-in-Ok-clause-complete : goal.returns-in-Ok-clause-complete
returns-in-Ok-clause-complete g c =
    rw c.in-Ok.ensures.ok
    (complete (map string_bytes c.args.words.now) (command_call c.in-Ok.command) _ _ _ _ _ _ _ _ _ _ _ c.perform.result c.perform.ensures.ends c.perform.ensures.cause)

pub returns-in-Err-Help-clause-leaves : goal.returns-in-Err-Help-clause-leaves
returns-in-Err-Help-clause-leaves g c =
    let words = map string_bytes c.args.words.now in
    let e = c.in-Err-Help in
    let asked = subst (IsExplained (app_for words) words) e.field-0-is e.ensures.explained in
    let a : Answer = record { status = Done; text = c.into_bytes.result } in
    rw (e.ensures.none (λ e. let is = c.in-Err-Help.field-0-is in cc))
    (told-same _ _ refl, ended (NoCallEnds words) (no_call-answerable words) _ _ _ a c.conclude.result (inr asked) tt c.conclude.ensures.said)

pub returns-in-Err-Help-clause-untouched : goal.returns-in-Err-Help-clause-untouched
returns-in-Err-Help-clause-untouched g c = untouched (call_of (map string_bytes c.args.words.now)) c.args.shelf.now

pub returns-in-Err-Help-clause-complete : goal.returns-in-Err-Help-clause-complete
returns-in-Err-Help-clause-complete g c = rw (c.in-Err-Help.ensures.none (λ e. let is = c.in-Err-Help.field-0-is in cc)) tt

pub returns-in-Err-Refused-clause-leaves : goal.returns-in-Err-Refused-clause-leaves
returns-in-Err-Refused-clause-leaves g c =
    let words = map string_bytes c.args.words.now in
    let e = c.in-Err-Refused in
    let put = c.conclude-in-Err-Refused in
    let asked = subst (IsExplained (app_for words) words) e.field-0-is e.ensures.explained in
    let a : Answer = record { status = Usage; text = c.into_bytes-in-Err-Refused.result } in
    rw (e.ensures.none (λ e. let is = c.in-Err-Refused.field-0-is in cc))
    (told-same _ _ refl, ended (NoCallEnds words) (no_call-answerable words) _ _ _ a put.result (inr asked) tt put.ensures.said)

pub returns-in-Err-Refused-clause-untouched : goal.returns-in-Err-Refused-clause-untouched
returns-in-Err-Refused-clause-untouched g c = untouched (call_of (map string_bytes c.args.words.now)) c.args.shelf.now

pub returns-in-Err-Refused-clause-complete : goal.returns-in-Err-Refused-clause-complete
returns-in-Err-Refused-clause-complete g c = rw (c.in-Err-Refused.ensures.none (λ e. let is = c.in-Err-Refused.field-0-is in cc)) tt

pub returns-clause-leaves : goal.returns-clause-leaves
returns-clause-leaves g c =
    let words = map string_bytes c.args.words.now in
    subst (Leaves words (call_of words) _ _ _ _ _) (sym c.conclude_memory.ensures.status)
    (memory-leaves words (call_of words) _ _ _ _ tt c.conclude_memory.ensures.said)

pub returns-clause-untouched : goal.returns-clause-untouched
returns-clause-untouched g c = untouched (call_of (map string_bytes c.args.words.now)) c.args.shelf.now

pub returns-clause-complete : goal.returns-clause-complete
returns-clause-complete g c =
    rw c.conclude_memory.ensures.status (memory-complete (call_of (map string_bytes c.args.words.now)) _ _ _ _)

pub returns-in-Ok-clause-once : goal.returns-in-Ok-clause-once
returns-in-Ok-clause-once g c = rw c.in-Ok.ensures.ok c.perform.ensures.once

pub returns-in-Err-Help-clause-once : goal.returns-in-Err-Help-clause-once
returns-in-Err-Help-clause-once g c = one-few _ _ _ c.conclude.ensures.once

pub returns-in-Err-Refused-clause-once : goal.returns-in-Err-Refused-clause-once
returns-in-Err-Refused-clause-once g c = one-few _ _ _ c.conclude-in-Err-Refused.ensures.once

pub returns-clause-once : goal.returns-clause-once
returns-clause-once g c = one-few _ _ _ c.conclude_memory.ensures.once
