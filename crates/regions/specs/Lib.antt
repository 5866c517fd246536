pub mod Claims
pub mod Counts
pub mod Distances
pub mod Findings
pub mod Requests
pub mod Texts
