pub mod Report
pub mod Members
pub mod Rooms
pub mod Surgery
pub mod Stays
