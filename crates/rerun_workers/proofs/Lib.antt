-- The files of lemmas of this crate.
pub mod Following
pub mod Made
pub mod Numbers
pub mod Issued
pub mod Under
