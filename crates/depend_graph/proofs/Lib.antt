-- The files of lemmas of this crate.
pub mod Adding
pub mod Gathering
pub mod Joins
mod Lanes
pub mod Largest
pub mod Named
pub mod Passing
pub mod Reached
