pub mod Answer
pub mod TokenRests
pub mod Laws
pub mod Only
