-- The files of definitions of this crate.
pub mod Edit
pub mod Grammar
pub mod Editing
