-- The files of definitions of this crate.
pub mod Stored
pub mod Merging
pub mod Fetching
pub mod Works
pub mod Turning
pub mod Making
pub mod Replaying
