-- The files of definitions of this crate.
pub mod Text
pub mod Report
