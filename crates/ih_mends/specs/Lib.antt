pub mod Mends
pub mod Sentences
pub mod Texts
pub mod Changes
pub mod Laws
