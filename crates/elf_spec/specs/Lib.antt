-- The files of definitions of this crate.
pub mod Fields
pub mod Header
pub mod Segments
pub mod Refusals
pub mod Image
