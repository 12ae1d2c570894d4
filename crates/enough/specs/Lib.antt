pub mod Enough
pub mod Example
