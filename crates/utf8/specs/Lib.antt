pub mod Answer
pub mod Utf8
pub mod Encoding
pub mod Laws
pub mod Rfc3629
pub mod Agree
pub mod Library
pub mod Examples
