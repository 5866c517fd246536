pub mod Checked
pub mod Chunks
pub mod Concluded
pub mod Hints
pub mod Ran
