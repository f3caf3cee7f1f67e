-- The files of definitions of this crate.
pub mod Alike
pub mod Starts
pub mod Versions
