pub mod Arrivals
pub mod Mending
pub mod Moments
pub mod NewStays
pub mod Pairs
pub mod RoomDays
