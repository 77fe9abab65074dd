pub mod Escapes
pub mod Filling
