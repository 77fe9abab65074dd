use Rattle.ih_arguments.proofs.FirstWords.{other}
use Rattle.std.proofs.Common.{refl}
use Rattle.ih_commands.proofs.command.table.subject_in.Goals as goal

pub returns-in_default : goal.returns-in_default
returns-in_default c =
    rw (
      other c.args.word.now _ c.in_default.not-patients,
      other c.args.word.now _ c.in_default.not-nurses,
      other c.args.word.now _ c.in_default.not-rooms,
      other c.args.word.now _ c.in_default.not-theatres,
      other c.args.word.now _ c.in_default.not-calendar,
    ) refl
