-- The files of lemmas of this crate.
pub mod Leaving
pub mod Entering
pub mod Keeping
pub mod Counting
