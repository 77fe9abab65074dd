pub mod Spellings
pub mod Slips
pub mod Warnings
pub mod Laws
