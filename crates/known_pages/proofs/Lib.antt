-- The files of lemmas of this crate.
pub mod Alike
mod Starts
mod Entries
pub mod Passing
pub mod KnownPages
