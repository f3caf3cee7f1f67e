-- The files of definitions of this crate.
pub mod Meaning
pub mod Pages
pub mod Reading
