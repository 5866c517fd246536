pub mod Calls
pub mod Cells
pub mod Closing
pub mod Operands
pub mod Refusals
pub mod Right
pub mod Tables
pub mod Tickets
