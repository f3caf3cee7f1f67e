-- The files of definitions of this crate.
pub mod Forms
