pub mod ListTests
pub mod Lying
pub mod FirstReason
pub mod Admitted
pub mod Silence
pub mod Lines
