-- The files of definitions of this crate.
pub mod Setups
pub mod Records
pub mod Histories
