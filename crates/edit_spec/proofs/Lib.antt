-- The files of lemmas and examples of this crate.
pub mod Encoding
pub mod Saying
pub mod Lengths
pub mod Examples
pub mod Deciding
pub mod Bytes
