-- The words that a call has, as `clap` and `ih_arguments` tell of them.
pub use Rattle.clap.specs.Words.{Text}
pub use Rattle.ih_arguments.specs.Start.{StartCall, start_call}
