-- The files of lemmas of this crate.
pub mod DataPages
pub mod Placing
pub mod Zeros
