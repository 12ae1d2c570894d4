pub mod CarryingReader
pub mod Core
pub mod Only
