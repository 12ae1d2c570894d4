pub mod Answer
pub mod Words
pub mod Room
pub mod Laws
pub mod Rules
pub mod RulesRight
pub mod Places
pub mod Examples
