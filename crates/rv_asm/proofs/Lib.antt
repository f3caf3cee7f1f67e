-- The files of lemmas of this crate.
pub mod Headers
pub mod Pages
pub mod Accepted
pub mod Loaded
