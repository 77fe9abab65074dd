pub mod Files
pub mod Later
pub mod Saying
pub mod Stopping
pub mod Puts
