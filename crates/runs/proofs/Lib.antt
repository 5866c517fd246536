pub mod Follows
pub mod Keeps
pub mod Moves
pub mod Passes
pub mod Reaches
pub mod Replays
pub mod Statuses
pub mod Tables
