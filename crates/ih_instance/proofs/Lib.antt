pub mod Flags
pub mod Examples
pub mod Sound
pub mod RowLimits
pub mod DraftSound
