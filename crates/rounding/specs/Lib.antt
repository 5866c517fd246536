pub mod Cut
pub mod Exact
pub mod Laws
pub mod Nearest
