-- The files of definitions of this crate.
pub mod World
pub mod MemHost
pub mod OsHost
pub mod Transfer
