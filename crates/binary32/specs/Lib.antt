pub mod Normal
pub mod Operations
pub mod Sizes
pub mod Steps
pub mod Words
