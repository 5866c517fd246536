pub mod Claimed
pub mod Counts
pub mod Texts
