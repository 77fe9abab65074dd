pub mod Least
pub mod CandidateLists
