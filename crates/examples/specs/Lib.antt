pub mod Examples
pub mod Units
pub mod Paged
