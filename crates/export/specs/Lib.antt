pub mod Numbers
pub mod Reals
pub mod Texts
pub mod Ids
pub mod IdsLaws
