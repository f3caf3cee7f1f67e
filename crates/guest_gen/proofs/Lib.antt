-- The files of lemmas of this crate.
pub mod Inputs
pub mod Lists
pub mod Guests
