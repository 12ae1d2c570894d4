pub mod Rules
pub mod Kind
pub mod Words
pub mod Name
