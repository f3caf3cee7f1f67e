-- The files of lemmas of this crate.
mod QueueRoom
mod QueueThreads
pub mod Room
mod Rows
pub mod TableKept
mod TableOfConditions
mod TableOfMutexes
mod TableOfThreads
