pub mod Narrow
pub mod Passed
pub mod Settled
