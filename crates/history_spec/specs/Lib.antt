-- The files of definitions of this crate.
pub mod History
pub mod Audit
pub mod Facts
pub mod Before
pub mod Keeping
pub mod Orders
pub mod Ancestors
