pub mod Coprime
pub mod Joined
pub mod Remainders
