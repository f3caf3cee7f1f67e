-- The lemmas of this crate.
pub mod Applying
pub mod PendingFacts
pub mod Outlining
pub mod OfRun
