pub mod Choices
pub mod Least
pub mod Lines
pub mod Places
