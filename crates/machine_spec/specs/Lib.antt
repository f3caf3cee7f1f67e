-- The files of definitions of this crate.
pub mod Machine
pub mod Performing
pub mod Step
pub mod Schedule
pub mod Limits
pub mod Setup
pub mod Choice
pub mod Whole
