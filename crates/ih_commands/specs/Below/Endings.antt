-- Files, and how calls end.
pub use Rattle.ih_shelf.specs.Outside.{IfTold, IsOnePutAtMost, Names, Rose, is_there}
pub use Rattle.ih_inputs.specs.Reading.{Given, HasGiven, InputFiles, files_of, given_of, said_files}
pub use Rattle.ih_endings.specs.Answers.{HasShelfCause, unsaid}
pub use Rattle.ih_endings.specs.Ends.{Ends, EndsOver, HasCause, HasCauseOver, HasReceived, HasReceivedPart, Received, Unchanged}
pub use Rattle.ih_endings.specs.Texts.{ReceivedPart, memory_text}
pub use Rattle.ih_endings.specs.declared.answer.Answer.{Answer}
pub use Rattle.ih_endings.specs.declared.status.Role.TheVariants.{Out}
pub use Rattle.ih_endings.specs.declared.status.Status.{Status}
pub use Rattle.ih_endings.specs.declared.status.Status.TheVariants.{Done, Infeasible, OutOfMemory, Usage, WriteFault}
pub use Rattle.ih_frame.specs.Ends.{AreAnswers, CommandEnds, HasNoFault, IsPerformed}
pub use Rattle.ih_frame.specs.Outcomes.{IsLeft, IsOwnStatus, OutcomeState, says, writes_one}
pub use Rattle.ih_frame.specs.Steps.{ArePutsAtMost}
