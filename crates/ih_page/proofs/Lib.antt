pub mod ChangeLaws
pub mod FindingSums
pub mod Inertness
pub mod WholeNumbers
