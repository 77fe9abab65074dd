pub mod Days
pub mod Ledger
pub mod Marks
pub mod Parts
