pub mod Calls
pub mod FirstWord
pub mod NoPlan
pub mod SettingsRead
