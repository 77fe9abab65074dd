pub mod Admissions
pub mod Sentences
pub mod Waiting
pub mod ScorerUse
pub mod Laws
