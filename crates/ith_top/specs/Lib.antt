-- The files of definitions of this crate.
pub mod Making
pub mod Completing
