use Rattle.std.proofs.Common.{refl}
use Rattle.clap.proofs.OnLiterals.{clap_on_literals}
use Rattle.ih_arguments.specs.Distinct.{all_differ}
use Rattle.ih_arguments.proofs.FirstWords.{other}
use Rattle.ih_words.specs.Plain.{plain_app}
use Rattle.ih_words.proofs.command.read_named.Goals as goal

pub read_plain-requires : goal.read_plain-requires
unfolding clap_on_literals plain_app all_differ
read_plain-requires c = record { simple = refl; independent = refl }

pub read_plain-requires-in-rounds : goal.read_plain-requires-in-rounds
unfolding clap_on_literals plain_app all_differ
read_plain-requires-in-rounds c = record { simple = refl; independent = refl }

-- a name that is no command's
pub returns-in_default-clause-read : goal.returns-in_default-clause-read
returns-in_default-clause-read c = λ e. rw (
  other c.args.name.now _ c.in_default.not-solve,
  other c.args.name.now _ c.in_default.not-replay,
  other c.args.name.now _ c.in_default.not-salvage,
  other c.args.name.now _ c.in_default.not-check,
  other c.args.name.now _ c.in_default.not-chain,
  other c.args.name.now _ c.in_default.not-rounds,
  other c.args.name.now _ c.in_default.not-advise,
  other c.args.name.now _ c.in_default.not-gen,
  other c.args.name.now _ c.in_default.not-demo,
) refl
