mod Examples
mod Unlawful
mod SearchRules
pub mod CallNames
