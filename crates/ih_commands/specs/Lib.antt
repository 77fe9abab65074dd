pub mod Below
pub mod Calls
pub mod Ends
pub mod Laws
