pub mod BestPlaces
pub mod Headings
pub mod JournalsApart
pub mod Lengths
pub mod Lines
pub mod Moves
pub mod SingleHistories
pub mod EntryTries
