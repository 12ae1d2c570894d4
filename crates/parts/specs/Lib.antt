pub mod Rules
pub mod Part
pub mod Laws
pub mod PartRight
pub mod Closed
pub mod Places
pub mod Only
