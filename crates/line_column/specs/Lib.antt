pub mod Spot
pub mod Lines
pub mod LinesRight
