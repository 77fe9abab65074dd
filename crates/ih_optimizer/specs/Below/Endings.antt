-- Files, and how calls end.
pub use Rattle.ih_shelf.specs.Outside.{IfTold, IsWritten, Names, OthersKept, is_there}
pub use Rattle.ih_inputs.specs.Reading.{ArePlans, Given, HasGiven, HasInputs, HasInstance, HasOlder, HasPlan, HasSolution, InputFiles, files_of, given_of, said_files}
pub use Rattle.ih_endings.specs.Answers.{Answers, HasShelfCause, IsConcluded, IsSaid, unsaid}
pub use Rattle.ih_endings.specs.Ends.{Ends, EndsOver, HasCause, HasCauseOver, HasReceived, HasReceivedPart, Received, Unchanged}
pub use Rattle.ih_endings.specs.Inputs.{EndsUnread}
pub use Rattle.ih_endings.specs.Texts.{ReceivedPart, memory_text, none_found_text}
pub use Rattle.ih_endings.specs.declared.answer.Answer.{Answer}
pub use Rattle.ih_endings.specs.declared.status.Role.TheVariants.{Out}
pub use Rattle.ih_endings.specs.declared.status.Status.{Status}
pub use Rattle.ih_endings.specs.declared.status.Status.TheVariants.{Done, NoneFound, OutOfMemory, StartRefused, WriteFault}
pub use Rattle.ih_frame.specs.Ends.{HasNoFault}
pub use Rattle.ih_frame.specs.Outcomes.{AreWritten, IsOwnStatus, IsStatusOf, OutcomeState, WritingState, outcome_of, says, writing_of}
pub use Rattle.ih_frame.specs.Steps.{AreAllWritten, ArePutsAtMost, AreSteps, BegunEnds, EndsFrom, StepsEnds, told}
