-- The files of lemmas of this crate.
pub mod Applying
mod Putting
pub mod Histories
