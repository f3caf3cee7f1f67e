-- The files of lemmas of this crate.
pub mod Appending
pub mod Issuing
pub mod Prefixes
mod Steps
