use Rattle.std.proofs.Common.{refl}
use Rattle.std.proofs.lemmas.Result.{IfErr-weaker}
use Rattle.ih_inputs.specs.declared.error.InputRole.TheVariants.{Instance}
use Rattle.ih_inputs.specs.Reading.{files_of}
use Rattle.ih_inputs.proofs.Causes.{instance-cause}
use Rattle.ih_inputs.proofs.Unread.{instance_unread}
use Rattle.ih_inputs.proofs.reading.read_first_instance.Goals as goal

pub returns-clause-unread : goal.returns-clause-unread
returns-clause-unread g c =
    IfErr-weaker c.read_instance_file.result _ _ (instance_unread (g.S.Shelf.names c.args.shelf.now) (files_of c.args.names.now)) c.read_instance_file.ensures.unread

pub returns-clause-cause : goal.returns-clause-cause
returns-clause-cause g c =
    instance-cause g.S.Shelf (files_of c.args.names.now) _ _ Instance c.args.names.now.instance.now refl _ c.read_instance_file.result
    c.read_instance_file.ensures.unread c.read_instance_file.ensures.cause
