mod ArgumentFacts
pub mod DescriptionRules
mod Distinct
pub mod Faults
pub mod FirstWords
pub mod Getters
mod GivenValues
mod RequiredValues
pub mod WordsRead
