pub mod CalendarSteps
pub mod DateSteps
pub mod PlainLines
pub mod ReadBack
pub mod RowSteps
