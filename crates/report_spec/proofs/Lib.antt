-- The files of lemmas and examples of this crate.
pub mod Examples
pub mod TextExamples
