pub mod CellsState
pub mod Laws
pub mod Limits
pub mod Bits
pub mod Pieces
