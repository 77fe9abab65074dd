pub mod StayPart
pub mod CellLedgers
pub mod ChoiceDelta
pub mod Scratch
pub mod LedgersState
pub mod StayDelta
pub mod AtOnce
pub mod Undo
