pub mod Fields
pub mod Told
pub mod Eights
pub mod Right
