use Rattle.std.proofs.Common.{subst, map, string_bytes}
use Rattle.ih_commands.specs.Below.Arguments.{App, HasKind, fault_of}
use Rattle.ih_arguments.proofs.WordsRead.{explained-read}
use Rattle.ih_commands.proofs.command.calls.read_call.Goals as goal

pub returns-in-Err-clause-read : goal.returns-in-Err-clause-read
returns-in-Err-clause-read g c =
    explained-read g.C.Worded.wording.app (map string_bytes c.args.words.now) g.C.Worded.Call g.C.Worded.wording.lawful c.in-Err.error c.explained.result
    (subst (λ (a : App). HasKind (fault_of a (map string_bytes c.args.words.now)) c.in-Err.error) c.requires.shape c.in-Err.ensures.faults)
    c.explained.ensures
