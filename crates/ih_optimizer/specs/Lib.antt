pub mod Below
pub mod Call
pub mod Laws
pub mod Pacing
pub mod Pinning
pub mod Rounds
pub mod Searching
