pub mod Rules
pub mod Lengths
pub mod Laws
pub mod Greatest
