-- Files, and how calls end.
pub use Rattle.ih_shelf.specs.Outside.{IfTold, IsOnePutAtMost, IsWritten, MayBeWritten, Names, PartOr, Rose, bytes_at}
pub use Rattle.ih_inputs.specs.Reading.{ArePlans, Given, HasBytes, HasGiven, HasInputs, HasInstance, HasJournal, HasPlan, InputFiles, IsNext, IsUnread, files_of, given_of, two_files}
pub use Rattle.ih_inputs.specs.declared.reading.TheConstants.{MAX_FILE, MAX_JOURNAL}
pub use Rattle.ih_endings.specs.Answers.{Answers, HasFileCause, HasShelfCause, IsConcluded, IsSaid, unsaid}
pub use Rattle.ih_endings.specs.Ends.{Ends, EndsOver, HasCause, HasCauseOver, HasReceived, HasReceivedPart, Received, Unchanged}
pub use Rattle.ih_endings.specs.Inputs.{EndsUnread, SaysUnread, unread_status}
pub use Rattle.ih_endings.specs.Texts.{ReceivedPart, memory_text, none_found_text, refused_text, too_long_text, unwritten_text}
pub use Rattle.ih_endings.specs.declared.status.Role.TheVariants.{Instance, Journal, Out, Solution}
pub use Rattle.ih_endings.specs.declared.status.Status.{Status}
pub use Rattle.ih_endings.specs.declared.status.Status.TheVariants.{Done, Infeasible, InstanceRefused, JournalRefused, NoneFound, OutOfMemory, ReadFault, StartRefused, TooLong, Usage, WriteFault}
pub use Rattle.ih_frame.specs.Ends.{AreAnswers, CommandEnds, HasNoFault, MadeEnds}
pub use Rattle.ih_frame.specs.Outcomes.{AreBegun, AreWritten, IsLeft, IsOneOf, IsOwnStatus, IsStatusOf, IsStopped, OutcomeState, StopsAt, WritingState, outcome_of, says, writes_one}
