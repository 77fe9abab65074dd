pub mod Values
pub mod Owners
pub mod Forms
pub mod Sentences
pub mod Broken
pub mod Remedies
