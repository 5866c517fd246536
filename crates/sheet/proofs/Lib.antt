pub mod Folds
pub mod Found
