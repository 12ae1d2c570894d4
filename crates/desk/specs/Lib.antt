pub mod Superseded
