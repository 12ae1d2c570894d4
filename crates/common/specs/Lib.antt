pub mod Pick
pub mod Bytes
pub mod Compare
pub mod Lists
pub mod Tests
pub mod Noting
pub mod Walk
