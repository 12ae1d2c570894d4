pub mod Tables
pub mod Only
pub mod Needed
