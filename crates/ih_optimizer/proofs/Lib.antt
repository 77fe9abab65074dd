pub mod Answered
pub mod ImproveEnding
pub mod Promises
pub mod RoundsTaken
pub mod SameRounds
pub mod SameSearches
