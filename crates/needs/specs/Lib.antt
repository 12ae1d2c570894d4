pub mod Needs
pub mod Behind
pub mod Rooms
pub mod Laws
pub mod Most
