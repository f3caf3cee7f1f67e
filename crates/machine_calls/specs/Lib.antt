-- The files of definitions of this crate.
pub mod Views
pub mod Doing
