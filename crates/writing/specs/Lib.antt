pub mod Answers
pub mod Tallies
pub mod Texts
pub mod Verdicts
