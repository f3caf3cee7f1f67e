-- The files of lemmas of this crate.
pub mod Asking
mod Giving
pub mod Finishing
