-- The files of lemmas of this crate.
pub mod Words
pub mod Searches
pub mod Along
pub mod Given
pub mod Parts
