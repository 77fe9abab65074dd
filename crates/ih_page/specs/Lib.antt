pub mod TimetableData
pub mod Findings
pub mod Changes
pub mod Waits
pub mod Page
pub mod Laws
