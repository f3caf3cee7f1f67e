-- The files of lemmas and examples of this crate.
pub mod Encoding
pub mod Saying
pub mod Reading
pub mod Lines
pub mod Examples
