pub mod Causes
mod Unread
