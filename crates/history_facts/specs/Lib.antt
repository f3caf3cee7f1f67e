-- The files of definitions of this crate.
pub mod Asking
pub mod PendingFacts
pub mod Outlining
