-- The files of definitions of this crate.
pub mod Clocks
pub mod Joins
pub mod Past
pub mod Reaching
