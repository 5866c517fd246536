pub mod Histories
pub mod Honest
pub mod Law
pub mod Met
pub mod Replies
pub mod Rooms
pub mod Runs
pub mod Sheets
