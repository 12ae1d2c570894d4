pub mod Refusal
pub mod Only
