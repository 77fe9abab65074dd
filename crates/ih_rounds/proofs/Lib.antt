pub mod BestOf
pub mod Dearer
pub mod Leading
pub mod Parting
pub mod Runs
pub mod JournalsApart
pub mod Lengths
