pub mod Arguments
pub mod Distinct
pub mod Explaining
pub mod Matches
pub mod Rules
pub mod Start
