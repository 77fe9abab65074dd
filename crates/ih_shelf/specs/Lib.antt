pub mod Outside
pub mod Stored
pub mod Faults
pub mod Memory
pub mod Real
