pub mod Entries
pub mod Laws
pub mod Lending
pub mod Runs
pub mod Texts
