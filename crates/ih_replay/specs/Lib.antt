pub mod Bests
pub mod Keeping
pub mod Laws
pub mod Refusals
pub mod ReplayState
