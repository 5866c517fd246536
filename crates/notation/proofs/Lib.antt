pub mod Lines
pub mod Made
pub mod Named
pub mod Reading
pub mod Written
