-- The files of definitions of this crate.
pub mod Items
pub mod File
pub mod Guest
