-- The files of lemmas of this crate.
pub mod Arguments
pub mod CommandLine
pub mod Commands
pub mod NoLine
pub mod Rows
