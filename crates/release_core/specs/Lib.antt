-- The files of definitions of this crate.
pub mod Jobs
pub mod Applying
