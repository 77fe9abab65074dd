pub mod Inertness
mod Lines
