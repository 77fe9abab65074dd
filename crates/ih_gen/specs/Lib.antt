pub mod Generated
pub mod Members
pub mod Words
