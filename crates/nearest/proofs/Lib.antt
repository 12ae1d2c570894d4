pub mod Near
pub mod Borders
pub mod Scaled
pub mod Round
pub mod ProductRight
pub mod Examples
