pub mod Lines
pub mod ReportExample
pub mod Sums
pub mod ListLemmas
pub mod LoadLemmas
pub mod MarkLemmas
pub mod AgeLemmas
