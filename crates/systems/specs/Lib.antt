pub mod Equations
pub mod Fixed
pub mod Joined
