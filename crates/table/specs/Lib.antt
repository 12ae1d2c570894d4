pub mod Table
pub mod Laws
pub mod Sweeps
pub mod Laid
