pub mod Title
pub mod Laws
pub mod Places
