pub mod Tables
pub mod Pages
pub mod Rules
pub mod Right
