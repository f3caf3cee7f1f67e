-- The files of lemmas and examples of this crate.
pub mod Touched
pub mod Rows
pub mod Examples
pub mod ImageMemory
pub mod OrderExamples
