pub mod Answers
pub mod Codes
pub mod Ends
pub mod Inputs
pub mod Texts
