pub mod Checks
pub mod Documents
pub mod Flags
pub mod Gives
