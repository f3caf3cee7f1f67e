-- The files of definitions of this crate.
pub mod Schedule
pub mod Adding
pub mod Refusals
