-- The files of definitions of this crate.
pub mod Words
pub mod Said
pub mod Refusals
pub mod Arguments
