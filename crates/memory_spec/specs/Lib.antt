-- The files of definitions of this crate.
pub mod Pages
pub mod Stores
pub mod Access
pub mod Workspace
