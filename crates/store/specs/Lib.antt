pub mod Store
pub mod Few
pub mod Laws
pub mod Served
pub mod Only
