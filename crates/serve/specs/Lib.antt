pub mod Serve
pub mod Laws
pub mod Only
