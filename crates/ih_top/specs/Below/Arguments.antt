-- The words that a call has, as `clap`, `ih_arguments` and `ih_words` tell of them.
pub use Rattle.ih_arguments.specs.Start.{StartCall, start_call}
pub use Rattle.ih_words.specs.Advise.{AdviseCall, IsLawfulAdvise, advise_call}
pub use Rattle.ih_words.specs.Check.{CheckCall, check_call}
pub use Rattle.ih_words.specs.Generate.{GenCall, gen_call}
pub use Rattle.ih_words.specs.Plain.{PlainCall}
pub use Rattle.ih_words.specs.Replay.{ReplayCall, replay_call}
pub use Rattle.ih_words.specs.Solve.{SolveCall, solve_call}
pub use Rattle.ih_words.specs.Words.{Call, HasLawfulOptions, IsNamed, NamedCallsAreWithinLimits, OutDiffers, advise, call_of, chain, check, command_call, demo, gen, replay, rounds, salvage, solve}
