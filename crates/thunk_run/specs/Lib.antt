-- The files of definitions of this crate.
pub mod TurnsOutcome
pub mod Running
pub mod Seeing
