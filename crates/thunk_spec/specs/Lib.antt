-- The files of definitions of this crate.
pub mod Turn
pub mod Put
pub mod Thunk
pub mod Locality
pub mod Ascending
pub mod Delta
pub mod Reads
pub mod Record
