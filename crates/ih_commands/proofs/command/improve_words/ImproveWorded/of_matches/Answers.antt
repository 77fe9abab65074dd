use Rattle.std.proofs.Common.{codes, refl}
use Rattle.ih_commands.specs.Below.Wards.{MAX_FREEZE, MAX_HARD, MAX_HEAT, MAX_WORKERS}
use Rattle.ih_commands.specs.Below.Arguments.{ArgMatches, found_of, optional_any, optional_between, optional_number, rows_of}
use Rattle.ih_commands.specs.Below.Searches.{MAX_KEEP}
use Rattle.ih_arguments.proofs.DescriptionRules.{takes_between, takes_number}
use Rattle.ih_commands.specs.Calls.Improve.{HasImprove, improve_app}
use Rattle.ih_commands.specs.Calls.Worded.{IsMatched}
use Rattle.ih_optimizer.specs.declared.pacing.TheConstants.{MAX_CALL_ROUNDS, MAX_SECONDS}
use Rattle.ih_commands.proofs.SettingsRead.{call-lawful}
use Rattle.ih_commands.proofs.command.improve_words.ImproveWorded.of_matches.Goals as goal

-- each number is within the limits that its rule has
within : (m : ArgMatches) → IsMatched improve_app m → HasImprove (rows_of (found_of m))
unfolding improve_app
within m is = record {
  seconds = is.1.optional 2 (optional_between (codes "seconds") 1 MAX_SECONDS) 1 MAX_SECONDS (takes_between refl);
  attempts = is.1.optional 3 (optional_any (codes "attempts")) 0 18446744073709551615 (takes_between refl);
  seed = is.1.optional 4 (optional_any (codes "seed")) 0 18446744073709551615 (takes_between refl);
  workers = is.1.optional 5 (optional_between (codes "workers") 1 MAX_WORKERS) 1 MAX_WORKERS (takes_between refl);
  rounds = is.1.optional 6 (optional_between (codes "rounds") 1 MAX_CALL_ROUNDS) 1 MAX_CALL_ROUNDS (takes_between refl);
  hot = is.1.optional 7 (optional_number (codes "hot") MAX_HEAT) 0 MAX_HEAT (takes_number refl);
  cold = is.1.optional 8 (optional_number (codes "cold") MAX_HEAT) 0 MAX_HEAT (takes_number refl);
  hard = is.1.optional 9 (optional_number (codes "hard") MAX_HARD) 0 MAX_HARD (takes_number refl);
  freeze = is.1.optional 11 (optional_number (codes "freeze") MAX_FREEZE) 0 MAX_FREEZE (takes_number refl);
  keep = is.1.optional 16 (optional_number (codes "keep") MAX_KEEP) 0 MAX_KEEP (takes_number refl);
}

pub improve_in-improve-requires-clause-rows : goal.improve_in-improve-requires-clause-rows
improve_in-improve-requires-clause-rows c = within c.args.matches.now c.requires

pub fault_in-requires : goal.fault_in-requires
fault_in-requires c = λ few cool.
    call-lawful (rows_of (found_of c.args.matches.now)) (within c.args.matches.now c.requires) _ c.improve_in-improve.ensures (few, cool)
