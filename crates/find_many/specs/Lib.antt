pub mod Only
pub mod Finds
pub mod Hints
pub mod Sweep
