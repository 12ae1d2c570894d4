pub mod Reach
pub mod LongArithmetic
pub mod Pattern
pub mod Tens
