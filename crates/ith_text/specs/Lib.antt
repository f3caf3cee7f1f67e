-- The files of definitions of this crate.
pub mod Lines
pub mod Place
