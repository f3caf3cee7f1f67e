-- The files of definitions of this crate.
pub mod AuditText
pub mod Claims
pub mod Listing
pub mod Parts
pub mod Past
pub mod RacesText
pub mod Rows
pub mod Steps
pub mod Touches
