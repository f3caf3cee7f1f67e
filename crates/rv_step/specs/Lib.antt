-- The files of definitions of this crate.
pub mod Step
pub mod Paging
