pub mod LineSteps
pub mod Keeping
pub mod Changing
pub mod Feasible
pub mod True
pub mod Passed
