pub mod Advising
pub mod Dealing
pub mod Laws
pub mod Texts
