pub mod Beds
pub mod Admissions
pub mod Sentences
pub mod Account
pub mod Shortages
pub mod Laws
