pub mod Calendar
pub mod Dates
pub mod Laws
pub mod Rows
pub mod Sheets
