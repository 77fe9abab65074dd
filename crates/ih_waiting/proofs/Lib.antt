pub mod LineSteps
pub mod FirstStays
pub mod Cheapest
pub mod ChangedBills
pub mod Least
pub mod Passed
