-- The files of definitions of this crate.
pub mod Entering
pub mod Equal
pub mod Flags
pub mod Groups
pub mod MapTables
pub mod Maps
pub mod Shelves
pub mod Stored
pub mod Stores
pub mod Tables
