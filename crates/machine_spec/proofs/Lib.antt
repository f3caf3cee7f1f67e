-- The files of lemmas and examples of this crate.
pub mod Harts
pub mod Tied
pub mod Steps
pub mod Beginning
pub mod Alone
pub mod Guests
pub mod RunExamples
pub mod StepExamples
pub mod SetupExamples
