pub mod KeptRows
pub mod Laws
pub mod KeptRowsRight
