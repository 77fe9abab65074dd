pub mod Floats
pub mod Labels
pub mod Saying
