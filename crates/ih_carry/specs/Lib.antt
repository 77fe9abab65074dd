pub mod Account
pub mod Handovers
pub mod Ids
pub mod Laws
pub mod Losses
