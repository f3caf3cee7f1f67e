-- The files of lemmas and examples of this crate.
pub mod TurnLocality
pub mod ThunkLocality
pub mod Guests
pub mod TurnExamples
pub mod ThunkExamples
pub mod InstructionExamples
pub mod PutExamples
pub mod Merging
pub mod Truth
pub mod Fuel
pub mod RecordExamples
