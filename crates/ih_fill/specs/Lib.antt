pub mod Candidates
pub mod Choices
pub mod Fill
pub mod Starts
pub mod FirstLeast
pub mod Laws
pub mod ScorerState
pub mod Theatres
