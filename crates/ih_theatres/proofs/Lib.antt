pub mod Minutes
pub mod MarkLemmas
pub mod DayLemmas
pub mod PartLemmas
pub mod OtherPatients
pub mod MinuteLemmas
pub mod LedgerLemmas
pub mod DeltaLemmas
