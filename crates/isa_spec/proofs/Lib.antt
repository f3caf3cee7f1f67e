-- The files of lemmas and examples of this crate.
pub mod Examples
pub mod Equality
pub mod Immediates
pub mod Decoding
pub mod WordOf
