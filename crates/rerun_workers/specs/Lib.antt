-- The files of definitions of this crate.
pub mod Following
pub mod Locking
pub mod Passes
pub mod Tickets
pub mod Watching
pub mod Making
