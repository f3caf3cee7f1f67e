-- The files of lemmas of this crate.
pub mod Worlds
pub mod Printing
pub mod Asking
pub mod Reading
pub mod Ending
pub mod Planning
pub mod Spent
pub mod OneText
pub mod Explained
pub mod Permitting
pub mod Replayed
pub mod Finding
pub mod Entries
pub mod Searches
pub mod Steps
pub mod ReasonsSoFar
pub mod Alike
