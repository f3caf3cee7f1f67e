-- The files of definitions of this crate.
pub mod Consistency
pub mod Appending
pub mod Committing
pub mod Choosing
pub mod Executing
