pub mod BillLemmas
pub mod MarkLemmas
pub mod DistinctLemmas
pub mod IndexLemmas
pub mod LoadLemmas
pub mod RosterLemmas
