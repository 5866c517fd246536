pub mod Checked
pub mod Listed
pub mod Refusals
pub mod Rows
pub mod SystemNames
pub mod Whole
pub mod Written
