-- The words that a call has, as `clap` and `ih_arguments` tell of them.
pub use Rattle.clap.specs.Simple.{Shape, app_of_fields, on_top}
pub use Rattle.clap.specs.Words.{App, HasKind, Row, Text, app_of, fault_of, first_of, found_of, is_simple_and_free, new_app, rows_of, with_rule, with_subcommand}
pub use Rattle.clap.specs.declared.parser.matches.ArgMatches.{ArgMatches}
pub use Rattle.ih_arguments.specs.Arguments.{app_by, files_app, flag, named, optional, optional_any, optional_between, optional_name, optional_number, repeated}
pub use Rattle.ih_arguments.specs.Distinct.{all_differ}
pub use Rattle.ih_arguments.specs.Explaining.{IsExplained, IsNoHelp, IsRead, MayAskForHelp, MayBeRefused}
pub use Rattle.ih_arguments.specs.Matches.{IsNumberIfGiven, by_first_word, call_by, flag_at, has_no_fault, is_given, number_at, number_if_given, text_at, texts_at}
pub use Rattle.ih_arguments.specs.Start.{StartCall, freezes_a_file, start_call, start_files, start_in, takes_a_file, with_start}
pub use Rattle.ih_arguments.specs.declared.explaining.NoCall.{NoCall}
pub use Rattle.ih_arguments.specs.declared.explaining.NoCall.TheVariants.{OutOfMemory}
pub use Rattle.jiff.specs.Types.{Date}
pub use Rattle.jiff.specs.Words.{date_parts, parse_date}
pub use Rattle.jiff_fmt.specs.Temporal.{DateParts}
