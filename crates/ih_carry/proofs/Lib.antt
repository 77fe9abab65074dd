pub mod CarrySteps
pub mod Known
pub mod Lines
pub mod Saying
