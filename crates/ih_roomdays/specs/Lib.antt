pub mod RoomLists
pub mod Occupancy
pub mod Parts
pub mod Genders
pub mod Profiles
pub mod Ledger
