-- The files of definitions of this crate.
pub mod Acting
pub mod Admitting
pub mod AdmittingReaders
pub mod ConditionTable
pub mod Leaving
pub mod Pairs
pub mod Puts
pub mod Queue
pub mod Rows
pub mod ThreadTable
