-- The files of definitions of this crate.
pub mod Equal
pub mod Comparing
