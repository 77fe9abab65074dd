pub mod Followed
pub mod Scenes
