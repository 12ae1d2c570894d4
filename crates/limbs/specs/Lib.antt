pub mod Worth
pub mod Laws
pub mod Steps
pub mod Top
pub mod Only
pub mod Examples
