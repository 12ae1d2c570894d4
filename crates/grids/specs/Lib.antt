pub mod Grid
pub mod Code
pub mod Laws
pub mod Row
pub mod Rows
pub mod GridRight
