pub mod Lines
pub mod Messages
pub mod Names
pub mod Numerals
pub mod Places
