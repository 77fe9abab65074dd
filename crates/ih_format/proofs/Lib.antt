pub mod Flags
pub mod Items
pub mod Listing
pub mod Named
