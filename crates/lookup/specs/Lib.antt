pub mod First
pub mod Lookup
pub mod Laws
pub mod Rules
pub mod Records
pub mod Only
