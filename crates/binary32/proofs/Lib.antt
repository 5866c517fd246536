pub mod Direct
pub mod Levels
pub mod Normal
pub mod Orders
pub mod Sizes
pub mod Steps
pub mod Zeros
