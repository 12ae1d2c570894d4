pub mod Rules
pub mod Prefix
pub mod Length
pub mod PrefixRight
