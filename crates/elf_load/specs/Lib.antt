-- The files of definitions of this crate.
pub mod Header
pub mod Questions
pub mod Rows
pub mod Load
pub mod Touched
pub mod Place
