pub mod Equations
pub mod Examined
pub mod Flaws
pub mod Widths
