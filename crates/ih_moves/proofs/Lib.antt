pub mod InARow
pub mod Padding
pub mod RunLemmas
pub mod Streams
pub mod Working
