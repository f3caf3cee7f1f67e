-- The files of definitions of this crate.
pub mod Inputs
pub mod Rounds
pub mod Reports
pub mod Making
pub mod Encoded
