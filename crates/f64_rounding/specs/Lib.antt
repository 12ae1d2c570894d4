pub mod Half
pub mod CutNumbers
pub mod Rounding
pub mod Window
pub mod Drops
pub mod Bits
pub mod Only
